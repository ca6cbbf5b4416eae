use Rattle.std.proofs.Common.{ℕ, All, take, length, ◌≡◌}
use Rattle.el_logic.specs.Meaning.{AreChained, AreRelated}
use Rattle.el_logic.proofs.evaluate.+leads_within.Given as goal

-- the chain gets shorter
abbrev pub decreases-leads_within : goal.decreases-leads_within
decreases-leads_within l = length l.chain.now

-- each pair so far that begins at this element leads on to elements that the property relates
abbrev pub invariant-loop-from : goal.invariant-loop-from
invariant-loop-from l =
    All (λ p. p.0 ≡ l.fn.at → (y : ℕ) → AreChained l.fn.i l.rest p.1 y
    → AreRelated l.fn.i l.fn.upper l.fn.start y) (take l.from-index l.from-items)
