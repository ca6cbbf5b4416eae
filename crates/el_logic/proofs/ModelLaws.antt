-- Models of more axioms, and what belongs to an interpretation.
use Rattle.std.proofs.Common.{ℕ, zero, suc, ◌<◌, List, [], ◌∷◌, All, Contains, get_or}
use Rattle.std.specs.Prelude.{slice_index_or}
use Rattle.std.proofs.lemmas.List.Elements.{All-head, All-tail, All-contains, Contains-get_or}
use Rattle.el_logic.specs.declared.types.Expr.{Expr, more_of-Expr}
use Rattle.el_logic.specs.declared.types.Expr.TheVariants.{Top, Bottom, Name, And', Exists'}
use Rattle.el_logic.specs.declared.types.Axiom.{Axiom}
use Rattle.el_logic.specs.declared.types.Axiom.TheVariants.{Equivalent, EquivalentRoles}
use Rattle.el_logic.specs.declared.types.Interp.{Interp}
use Rattle.el_logic.specs.Meaning.{IsInterp, IsMember, IsWithin, AreRelated, Holds}
use Rattle.el_logic.specs.Incoherent.{IsModel}
use Rattle.el_logic.proofs.Small.{in_none}

-- what each element of a list passes
pub all_by_each : {X : Type 0} → (P : X → Type 0) (xs : List X) → ((x : X) → Contains xs x → P x) → All P xs
all_by_each P xs each = λ k d within. each (get_or xs k d) (Contains-get_or xs k d within)

-- a model of more axioms is a model of fewer
pub with_more : (classes roles : ℕ) (axioms more : List Axiom) → ((one : Axiom) → Contains axioms one → Contains more one)
    → (i : Interp) → IsModel classes roles more i → IsModel classes roles axioms i
with_more classes roles axioms more within i model = record {
  fits = model.fits;
  holds = all_by_each (Holds i) axioms (λ one held. All-contains (Holds i) more one model.holds (within one held));
}

-- what is listed under a name passes what all lists pass
pub listed : {X : Type 0} → (P : X → Type 0) (lists : List (List X)) (k : ℕ) (x : X) → All (All P) lists → Contains (slice_index_or lists k []) x → P x
listed P [] k x all held = absurd (in_none x held)
listed P (list ∷ lists) zero x all held = All-contains P list x (All-head (All P) list lists all) held
listed P (list ∷ lists) (suc k) x all held = listed P lists k x (All-tail (All P) list lists all) held

-- members are elements of the domain
pub member_below : (classes roles : ℕ) (i : Interp) (x : ℕ) (e : Expr) → IsInterp classes roles i → IsMember i x e → x < i.size
member_below classes roles i x Top fits h = h
member_below classes roles i x Bottom fits h = absurd h
member_below classes roles i x (Name c) fits h = listed (λ y. y < i.size) i.classes c x fits.members_below h
member_below classes roles i x (And' _ es) fits h = h.0
member_below classes roles i x (Exists' r _ (more_of-Expr e _)) fits h = (listed (λ p. (p.0 < i.size) × (p.1 < i.size)) i.roles r (x, h.0) fits.pairs_below h.1).0

-- of an equivalence that holds, each operand is within each other
pub class_within : (i : Interp) (cs : List Expr) (c d : Expr) → Holds i (Equivalent cs) → Contains cs c → Contains cs d → IsWithin i c d
class_within i cs c d holds in_c in_d = All-contains (λ d. IsWithin i c d) cs d (All-contains (λ c. All (λ d. IsWithin i c d) cs) cs c holds in_c) in_d

pub role_within : (i : Interp) (rs : List ℕ) (r s : ℕ) → Holds i (EquivalentRoles rs) → Contains rs r → Contains rs s
    → (x y : ℕ) → AreRelated i r x y → AreRelated i s x y
role_within i rs r s holds in_r in_s = All-contains (λ s. (x y : ℕ) → AreRelated i r x y → AreRelated i s x y) rs s
    (All-contains (λ r. All (λ s. (x y : ℕ) → AreRelated i r x y → AreRelated i s x y) rs) rs r holds in_r) in_s
