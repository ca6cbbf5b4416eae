use Rattle.std.proofs.Common.{◌<◌, sym, subst}
use Rattle.derivation.specs.Traces.{EachNamesEarlier}
use Rattle.worked_derivations.proofs.PutLaws.{put_earlier}
use Rattle.worked_derivations.proofs.traces.put.Goals as goal

pub returns-in-None : goal.returns-in-None
returns-in-None c =
    let earlier = c.names_earlier.ensures c.if-not-names_earlier.false in
    subst (λ items. EachNamesEarlier items) (sym c.insert.ensures.list)
    (put_earlier _ c.args.item c.requires.earlier
    (λ place names. subst (λ n. place < n) c.len.ensures.count (earlier place names)))
