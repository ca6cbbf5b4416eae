-- The only element of a list, and the elements of a list of two.
use Rattle.std.proofs.Common.{[], ◌∷◌, Contains}
use Rattle.std.proofs.lemmas.List.Elements.{Contains-push, Contains-append_left}

-- an element is in the list of it alone
pub alone : {X : Type 0} (x : X) → Contains (x ∷ []) x
alone x = Contains-push [] x

pub first_of_two : {X : Type 0} (x y : X) → Contains (x ∷ y ∷ []) x
first_of_two x y = Contains-append_left (x ∷ []) (y ∷ []) x (alone x)

pub second_of_two : {X : Type 0} (x y : X) → Contains (x ∷ y ∷ []) y
second_of_two x y = Contains-push (x ∷ []) y
