use Rattle.std.proofs.Common.{ℕ, List, subst}
use Rattle.closed_model.specs.Models.{HaveTheSame}
use Rattle.model_members.specs.Lists.{AreTurned}
use Rattle.model_members.specs.Inside.Keyed.{AreMadeOf}
use Rattle.model_members.proofs.SameModels.{fits_made, means_same}
use Rattle.model_members.proofs.model.model_lists.Goals as goal

pub returns-clause-ordered : goal.returns-clause-ordered
returns-clause-ordered c =
    let model = c.args.model.now in
    let classes = c.in_ok-classes.classes in
    let roles = c.in_ok-roles.roles in
    let turned = c.in_ok-turned.turned in
    let members = subst (λ (given : List (List ℕ)). AreMadeOf HaveTheSame given classes) c.as_slice.ensures c.in_ok-classes.ensures.same in
    let pairs = subst (λ (given : List (List (ℕ × ℕ))). AreMadeOf HaveTheSame given roles) c.as_slice-2.ensures c.in_ok-roles.ensures.same in
    let back = subst (λ (given : List (List (ℕ × ℕ))). AreMadeOf AreTurned given turned) c.as_slice-3.ensures c.in_ok-turned.ensures.same in
    record {
      fits = fits_made model classes roles c.requires members pairs;
      ascending = record { members = c.in_ok-classes.ensures.ascending; pairs = c.in_ok-roles.ensures.ascending };
      turned = back.keyed;
      turned_ascending = c.in_ok-turned.ensures.ascending;
    }

pub returns-clause-meaning : goal.returns-clause-meaning
returns-clause-meaning c =
    let classes = c.in_ok-classes.classes in
    let roles = c.in_ok-roles.roles in
    means_same c.args.model.now classes roles
    (subst (λ (given : List (List ℕ)). AreMadeOf HaveTheSame given classes) c.as_slice.ensures c.in_ok-classes.ensures.same)
    (subst (λ (given : List (List (ℕ × ℕ))). AreMadeOf HaveTheSame given roles) c.as_slice-2.ensures c.in_ok-roles.ensures.same)
