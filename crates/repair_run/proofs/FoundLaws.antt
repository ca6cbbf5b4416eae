-- The first part that leaves a class empty is one, and so is the first such class.
use Rattle.std.proofs.Common.{◌≡◌, ℕ, List, ◌++◌, inl, inr, refl, sym, ◌∙◌, ap, Contains, arith}
use Rattle.std.specs.Prelude.{Some, slice_get}
use Rattle.std.proofs.lemmas.Bool.{cases_lt}
use Rattle.std.proofs.lemmas.List.Elements.{Contains-append_left, Contains-append_right}
use Rattle.std.proofs.lemmas.Option.{slice_get_within, get_or_from_slice_get}
use Rattle.el_logic.specs.declared.types.Expr.{Expr}
use Rattle.el_logic.specs.declared.types.Axiom.{Axiom}
use Rattle.el_logic.specs.declared.types.Part.{Part}
use Rattle.el_logic.specs.Incoherent.{IsIncoherent, IsCoherent, IsFirstEmpty, IsFirstIncoherent, must_have}
use Rattle.repair_run.specs.Outcomes.{iri_of_class}

-- more axioms never make axioms coherent
abbrev pub MoreStay : Type 0
MoreStay = (classes roles : ℕ) (axioms more : List Axiom) → ((one : Axiom) → Contains axioms one → Contains more one)
    → IsIncoherent classes roles axioms → IsIncoherent classes roles more

module _ (classes roles : ℕ) where
  -- the first empty class shows incoherence
  incoherent_by : (axioms : List Axiom) (class : Expr) → IsFirstEmpty classes roles axioms class → IsIncoherent classes roles axioms
  incoherent_by axioms class f = (class, (f.place, slice_get_within (must_have classes) f.place class f.at, get_or_from_slice_get (must_have classes) f.place class class f.at), f.empty)

  -- the first empty class is one
  one_first : (axioms : List Axiom) (c d : Expr) → IsFirstEmpty classes roles axioms c → IsFirstEmpty classes roles axioms d → c ≡ d
  one_first axioms c d f g = elim (cases_lt f.place g.place) [
    | inl before ↦ absurd (g.none_before f.place c before f.at f.empty)
    | inr from ↦ elim (cases_lt g.place f.place) [
      | inl before ↦ absurd (f.none_before g.place d before g.at g.empty)
      | inr to ↦
          let same : f.place ≡ g.place = omega arith in
          let both : Some c ≡ Some d = sym f.at ∙ ap (slice_get (must_have classes)) same ∙ g.at in cc
    ]
  ]

  -- a coherent part has no empty class
  by_part : (axioms : List Axiom) (c : Expr) → IsCoherent classes roles axioms → IsFirstEmpty classes roles axioms c → ⊥
  by_part axioms c coherent f = coherent (incoherent_by axioms c f)

  -- the first incoherent part is one, with its first empty class
  pub one_part : (left right : List Axiom) (part part' : Part) (c d : Expr) → IsFirstIncoherent classes roles left right part c
      → IsFirstIncoherent classes roles left right part' d → (part ≡ part') × (c ≡ d)
  one_part left right Part.Left Part.Left c d f g = (refl, one_first left c d f g)
  one_part left right Part.Left Part.Right c d f g = absurd (by_part left c g.0 f)
  one_part left right Part.Left Part.Both c d f g = absurd (by_part left c g.0 f)
  one_part left right Part.Right Part.Left c d f g = absurd (by_part left d f.0 g)
  one_part left right Part.Right Part.Right c d f g = (refl, one_first right c d f.1 g.1)
  one_part left right Part.Right Part.Both c d f g = absurd (by_part right c g.1 f.1)
  one_part left right Part.Both Part.Left c d f g = absurd (by_part left d f.0 g)
  one_part left right Part.Both Part.Right c d f g = absurd (by_part right d f.1 g.1)
  one_part left right Part.Both Part.Both c d f g = (refl, one_first (left ++ right) c d f.2 g.2)

  -- if a part is incoherent, both together are
  pub is_incoherent : MoreStay → (left right : List Axiom) (part : Part) (c : Expr) → IsFirstIncoherent classes roles left right part c
      → IsIncoherent classes roles (left ++ right)
  is_incoherent more left right Part.Left c f =
      more classes roles left (left ++ right) (λ one held. Contains-append_left left right one held) (incoherent_by left c f)
  is_incoherent more left right Part.Right c f =
      more classes roles right (left ++ right) (λ one held. Contains-append_right left right one held) (incoherent_by right c f.1)
  is_incoherent more left right Part.Both c f = incoherent_by (left ++ right) c f.2

-- a class has one IRI
pub one_iri : (names : List (List ℕ)) (c d : Expr) (iri iri' : List ℕ) → c ≡ d → iri_of_class names c ≡ Some iri → iri_of_class names d ≡ Some iri' → iri ≡ iri'
one_iri names c d iri iri' e f g = let both : Some iri ≡ Some iri' = sym f ∙ ap (iri_of_class names) e ∙ g in cc
