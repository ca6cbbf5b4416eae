use Rattle.std.proofs.Common.{◌≡◌, ◌<◌, ◌≤◌, ◌+◌, true, length, IfSome, subst, arith}
use Rattle.std.specs.Prelude.{Option, Some}
use Rattle.ofn_lex.specs.declared.token.Token.{Token}
use Rattle.ofn_term.specs.Words.{is_close}
use Rattle.ofn_term.specs.Inside.PieceReading.{IsReadTo}
use Rattle.ofn_term.proofs.Reading.{left, left_after, passed_on, none_read, group_read, group_closed}
use Rattle.ofn_term.proofs.groups.+groups.Goals as goal

pub group_at-returns-clause-read : goal.group_at-returns-clause-read
group_at-returns-clause-read t c = λ behind has.
    let a = c.args in
    let inside = c.first_open-first.result in
    let close = c.in-Some.close in
    let closes : is_close close ≡ true = subst (λ (o : Option Token). IfSome o (λ t. is_close t ≡ true)) c.in-Some.is c.in-Ok.ensures.stops in
    let read = subst (λ (o : Option Token). IsReadTo a.text.now a.level.most (a.level.depth + 1) inside behind c.in-Ok.found.0 o) c.in-Some.is
    (c.in-Ok.ensures.read behind (c.token_from-begin.ensures.begins behind has)) in
    group_closed a.text.now a.level.most a.level.depth a.level.first inside a.bracket close c.in-Ok.found.0 c.token_from-next.result behind
    c.first_open-first.ensures c.requires.open (omega arith) closes c.token_from-next.ensures.begins read

pub group_at-returns-clause-past : goal.group_at-returns-clause-past
group_at-returns-clause-past t c =
    let bracket = c.args.bracket in
    let close = c.in-Some.close in
    let closed : bracket.end < close.end = subst (λ (o : Option Token). IfSome o (λ t. bracket.end < t.end)) c.in-Some.is (c.in-Ok.ensures.past bracket.end c.token_from-begin.ensures.past) in
    passed_on bracket.end close.end c.token_from-next.result closed c.token_from-next.ensures.past

pub items_at-loop-here-init : goal.items_at-loop-here-init
items_at-loop-here-init t c =
    let a = c.args in
    record {
      read = none_read a.text.now a.level.most a.level.depth a.level.first a.begin c.new-items.result.items c.new-items.ensures.items;
      within = c.requires;
      past = λ n h. h;
      fewer = omega arith;
    }

pub items_at-loop-here-preserved : goal.items_at-loop-here-preserved
items_at-loop-here-preserved t c =
    let a = c.args in
    let text = a.text.now in
    let token = c.in-Some.token in
    let opening = c.in-Some-opening_of.opening in
    let bracket = opening.bracket in
    let group = c.in-Ok.group in
    let so_far = c.loop-here.invariant in
    let within : token.end ≤ length text = subst (λ (o : Option Token). IfSome o (λ t. t.end ≤ length text)) c.in-Some.is so_far.within in
    let past : token.end ≤ bracket.end = c.in-Some-opening_of.ensures.past in
    let less : left text group.next < left text (Some token) = left_after text token group.next bracket.end within past c.in-Ok.ensures.past c.in-Ok.ensures.within in
    let before : left text (Some token) ≤ left text a.begin = subst (λ (o : Option Token). left text o ≤ left text a.begin) c.in-Some.is so_far.fewer in
    record {
      read = λ tokens begins.
          group_read text a.level.most a.level.depth a.level.first tokens c.loop-here.items.items c.push_group.new.items.items group.items token bracket opening.head group.next group.end
          c.in-Some-opening_of.ensures.opening c.in-Ok.ensures.read c.in_ok-push_group.ensures
          (subst (λ (o : Option Token). IsReadTo text a.level.most a.level.depth a.level.first tokens c.loop-here.items.items o) c.in-Some.is (so_far.read tokens begins));
      within = c.in-Ok.ensures.within;
      past = λ n h.
          let beyond : n < token.end = subst (λ (o : Option Token). IfSome o (λ t. n < t.end)) c.in-Some.is (so_far.past n h) in
          let further : n < bracket.end = omega arith in
          passed_on n bracket.end group.next further c.in-Ok.ensures.past;
      fewer = omega arith;
    }
