use Rattle.std.proofs.Common.{List, [], ◌++◌, ◌∙◌, ap}
use Rattle.fact_table.specs.declared.types.Proved.{Proved}
use Rattle.fact_layers.specs.Tops.{whole}
use Rattle.saturate.proofs.ReadyLaws.{derived_none, ready_none}
use Rattle.saturate.proofs.saturation.begun.Goals as goal

pub returns : goal.returns
returns c =
    let empty = ap whole c.in_ok-layers.ensures ∙ ap (λ (items : List Proved). items ++ []) c.in_ok-base.ensures in
    ready_none c.args.grounds.now c.begin_all.new.layers (c.begin_all.ensures.grown.derived (derived_none c.args.grounds.now (whole c.in_ok-layers.layers) empty)) c.in_ok-begin_all.ensures.begun
