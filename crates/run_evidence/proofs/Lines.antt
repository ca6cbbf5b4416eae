-- Nodes, roles, models and journals have lines.
use Rattle.std.proofs.Common.{◌≡◌, inl, inr, ◌≤◌, ◌<◌, ◌+◌, ◌^◌, ℕ, zero, suc, Bool, true, false, cond, List, [], ◌∷◌, length, map, get_or, refl, ap, ◌∙◌, arith, eq-eqb, lt-ltb, All}
use Rattle.std.specs.Prelude.{Some, None, nat_lt, nat_le, nat_eq, ◌&&◌, ◌||◌}
use Rattle.std.specs.List.{AllByRecursion, AllPairs}
use Rattle.std.specs.List.Sorted.{IsStrictlyIncreasing}
use Rattle.std.proofs.lemmas.List.Elements.{All-head, All-tail}
use Rattle.std.proofs.lemmas.List.Kept.{AllPairs-from_increasing}
use Rattle.concept_store.specs.declared.types.Node.{Node}
use Rattle.concept_store.specs.declared.types.Node.TheVariants as node
use Rattle.concept_store.specs.declared.types.RoleNode.{RoleNode}
use Rattle.concept_store.specs.declared.types.RoleNode.TheVariants as role
use Rattle.closed_model.specs.Models.{ComesBefore}
use Rattle.accuse_core.specs.declared.mark.Mark.{Mark}
use Rattle.accuse_core.specs.declared.event.Event.{Event}
use Rattle.accuse_core.specs.declared.event.Event.TheVariants as event
use Rattle.accuse_core.specs.declared.event.Reply.TheVariants as reply
use Rattle.accuse_core.specs.declared.journal.Entry.{Entry}
use Rattle.accuse_core.specs.Marks.{is_decided, mark_at, number_kept, front_of, with_removed, with_kept, with_note}
use Rattle.accuse_core.specs.Events.{replies, changes, outcome}
use Rattle.accuse_core.specs.Journal.{AreReplied}
use Rattle.evidence_lines.specs.Names.{is_iri, HasNodeLine, HasRoleLine}
use Rattle.evidence_lines.specs.Journal.{is_answer, answers_take, answers_front, answers_no, answers_yes, HasEntryLine}
use Rattle.evidence_lines.specs.Model.{is_pair_before, ElementsAscend, PairsAscend, HasClassLine, HasPropertyLine}
use Rattle.evidence_text.specs.EvidenceText.{HaveLinesFrom}
use Rattle.valid_evidence.specs.Items.{line_of_node, line_of_role}
use Rattle.loaded_names.specs.Iris.{AreIris}

-- ---- nodes and roles

-- each of some names, and the empty one in place of others
iri_at : (names : List (List ℕ)) (number : ℕ) → AreIris names → is_iri (get_or names number []) ≡ true
iri_at [] number h = refl
iri_at (name ∷ names) zero h = h.0
iri_at (name ∷ names) (suc number) h = iri_at names number h.1

node_line : (names : List (List ℕ)) → AreIris names → (n : Node) → HasNodeLine (line_of_node names n)
node_line names iris node.Top = tt
node_line names iris node.Bottom = tt
node_line names iris (node.Class class) = iri_at names class iris
node_line names iris (node.And one other) = tt
node_line names iris (node.Exists role filler) = tt

pub nodes_lines : (names : List (List ℕ)) → AreIris names → (nodes : List Node) → AllByRecursion HasNodeLine (map (line_of_node names) nodes)
nodes_lines names iris [] = tt
nodes_lines names iris (n ∷ nodes) = (node_line names iris n, nodes_lines names iris nodes)

role_line : (names : List (List ℕ)) → AreIris names → (r : RoleNode) → HasRoleLine (line_of_role names r)
role_line names iris (role.Named property) = iri_at names property iris
role_line names iris (role.Part side number size) = tt

pub roles_lines : (names : List (List ℕ)) → AreIris names → (roles : List RoleNode) → AllByRecursion HasRoleLine (map (line_of_role names) roles)
roles_lines names iris [] = tt
roles_lines names iris (r ∷ roles) = (role_line names iris r, roles_lines names iris roles)

-- ---- models

-- numbers of which each is below all later ones follow one another
elements_after : (x : ℕ) (xs : List ℕ) → AllPairs (λ a b. a < b) (x ∷ xs) → ElementsAscend (Some x) xs
elements_after x [] h = tt
elements_after x (y ∷ ys) h =
    (lt-ltb x y (h 0 1 0 (omega arith) (omega arith)), elements_after y ys (λ i j d before inside. h (suc i) (suc j) d (omega arith) (omega arith)))

elements_ascend : (xs : List ℕ) → IsStrictlyIncreasing xs → ElementsAscend None xs
elements_ascend [] h = tt
elements_ascend (x ∷ xs) h = (refl, elements_after x xs (AllPairs-from_increasing (x ∷ xs) h))

-- and so do pairs
or_yes : (b : Bool) → (b || true) ≡ true
or_yes true = refl
or_yes false = refl

before_is : (p q : ℕ × ℕ) → ComesBefore p q → is_pair_before p q ≡ true
before_is (a, b) (c, d) (inl first) = ap (λ (t : Bool). t || (nat_eq a c && nat_lt b d)) (lt-ltb a c first)
before_is (a, b) (c, d) (inr both) =
    ap (λ (t : Bool). nat_lt a c || (t && nat_lt b d)) (eq-eqb a c both.0)
    ∙ ap (λ (t : Bool). nat_lt a c || t) (lt-ltb b d both.1) ∙ or_yes (nat_lt a c)

pairs_after : (p : ℕ × ℕ) (ps : List (ℕ × ℕ)) → AllPairs ComesBefore (p ∷ ps) → PairsAscend (Some p) ps
pairs_after p [] h = tt
pairs_after p (q ∷ qs) h =
    (before_is p q (h 0 1 p (omega arith) (omega arith)), pairs_after q qs (λ i j d before inside. h (suc i) (suc j) d (omega arith) (omega arith)))

pairs_ascend : (ps : List (ℕ × ℕ)) → AllPairs ComesBefore ps → PairsAscend None ps
pairs_ascend [] h = tt
pairs_ascend (p ∷ ps) h = (refl, pairs_after p ps h)

pub class_lines : (place : ℕ) (classes : List (List ℕ)) → place + length classes + 2 ≤ 2 ^ 32 → All IsStrictlyIncreasing classes → HaveLinesFrom HasClassLine place classes
class_lines place [] small h = tt
class_lines place (members ∷ classes) small h = (
  record { small = omega arith; ascend = elements_ascend members (All-head IsStrictlyIncreasing members classes h) },
  class_lines (place + 1) classes (omega arith) (All-tail IsStrictlyIncreasing members classes h),
)

pub property_lines : (place : ℕ) (roles : List (List (ℕ × ℕ))) → place + length roles ≤ 2 ^ 32 → All (AllPairs ComesBefore) roles → HaveLinesFrom HasPropertyLine place roles
property_lines place [] small h = tt
property_lines place (pairs ∷ roles) small h = (
  record { small = omega arith; ascend = pairs_ascend pairs (All-head (AllPairs ComesBefore) pairs roles h) },
  property_lines (place + 1) roles (omega arith) (All-tail (AllPairs ComesBefore) pairs roles h),
)

-- ---- journals

-- the core's reply is one that the event may have
module _ (marks : List Mark) where
  take_answer : (b : Bool) → answers_take (cond b (replies marks reply.Over) (replies marks (reply.Seen (number_kept marks)))).reply ≡ true
  take_answer true = refl
  take_answer false = refl

  front_answer : (b : Bool) → answers_front (cond b (replies marks reply.Done) (replies marks (reply.Front (front_of marks) (number_kept marks)))).reply ≡ true
  front_answer true = refl
  front_answer false = refl

  no_answer : (rank : ℕ) (b : Bool) → answers_no (cond b (replies marks reply.Late) (changes (with_removed marks rank) reply.Marked)).reply ≡ true
  no_answer rank true = refl
  no_answer rank false = refl

  yes_answer : (rank seen : ℕ) (late stale front far : Bool) → answers_yes
      (cond late (replies marks reply.Late)
      (cond stale (replies marks (reply.Stale (number_kept marks)))
      (cond front (changes (with_kept marks rank) reply.Kept)
      (cond far (replies marks reply.Far) (changes (with_note marks rank seen) reply.Noted))))).reply ≡ true
  yes_answer rank seen true stale front far = refl
  yes_answer rank seen false true front far = refl
  yes_answer rank seen false false true far = refl
  yes_answer rank seen false false false true = refl
  yes_answer rank seen false false false false = refl

  core_answers : (e : Event) → is_answer e (outcome marks e).reply ≡ true
  core_answers (event.Take worker rank) = take_answer (is_decided (mark_at marks rank))
  core_answers (event.TakeFront worker) = front_answer (nat_eq (front_of marks) (length marks))
  core_answers (event.No worker rank seen) = no_answer rank (is_decided (mark_at marks rank))
  core_answers (event.Yes worker rank seen) =
      yes_answer rank seen (is_decided (mark_at marks rank)) (nat_lt seen (number_kept marks)) (nat_eq rank (front_of marks)) (nat_le (front_of marks + 64) rank)
  core_answers (event.Block worker rank count seen) = refl

pub entries_lines : (marks : List Mark) (entries : List Entry) → AreReplied marks entries → AllByRecursion HasEntryLine entries
entries_lines marks [] h = tt
entries_lines marks (entry ∷ entries) h =
    (ap (is_answer entry.event) h.1 ∙ core_answers marks entry.event, entries_lines (outcome marks entry.event).marks entries h.2)
