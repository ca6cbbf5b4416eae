use Rattle.std.proofs.Common.{◌≡◌, ◌∙◌, ◌<◌, List, length, refl, ap, sym, subst, arith, true≢false}
use Rattle.std.specs.Prelude.{All, Option, Some, slice_get}
use Rattle.std.proofs.lemmas.Option.{slice_get_read}
use Rattle.concept_store.specs.declared.types.RoleNode.{RoleNode}
use Rattle.concept_store.specs.Roles.{Numbered}
use Rattle.case_file.specs.Cases.{CaseView, IsCase}
use Rattle.valid_evidence.specs.Items.{case_loaded, line_of_role}
use Rattle.check_items.proofs.LineLaws.{all_lines, line_at, line_more, roles_are_named, role_is_named, IsNamedWithin}
use Rattle.check_items.proofs.lists.lists_roles.Goals as goal

pub is_role_line-requires : goal.is_role_line-requires
is_role_line-requires c property is =
    let roles_are : c.store-store.result.now.roles ≡ (case_loaded c.args.loaded.now).store.roles =
    ap (λ (s : Numbered). s.roles) c.store-store.ensures.store ∙ ap (λ (v : CaseView). v.store.roles) c.deref.ensures in
    let there : slice_get (case_loaded c.args.loaded.now).store.roles c.loop-n.n ≡ Some c.role.result = ap (λ (xs : List RoleNode). slice_get xs c.loop-n.n) (sym roles_are) ∙ c.role.ensures in
    let case = case_loaded c.args.loaded.now in
    let made = subst IsCase c.deref.ensures c.store-store.ensures.case in
    let named = subst (λ (s : Numbered). All (IsNamedWithin case.properties) s.roles) (sym (ap (λ (v : CaseView). v.store) made.built))
    (roles_are_named case.properties case.left case.right) in
    let below = role_is_named case.properties case.store.roles c.loop-n.n property named (there ∙ ap {B = Option RoleNode} (λ (r : RoleNode). Some r) is) in
    omega (arith, below, c.requires.properties)

pub returns-then-not-is_role_line : goal.returns-then-not-is_role_line
returns-then-not-is_role_line c =
    let roles_are : c.store-store.result.now.roles ≡ (case_loaded c.args.loaded.now).store.roles =
    ap (λ (s : Numbered). s.roles) c.store-store.ensures.store ∙ ap (λ (v : CaseView). v.store.roles) c.deref.ensures in
    let there : slice_get (case_loaded c.args.loaded.now).store.roles c.loop-n.n ≡ Some c.role.result = ap (λ (xs : List RoleNode). slice_get xs c.loop-n.n) (sym roles_are) ∙ c.role.ensures in
    let inside : c.loop-n.n < length c.args.lines.now = omega (arith, c.loop-n-test.true, c.loop-n.auto.n-end, c.if-lines-roles.false, c.roles.ensures, c.roles-n-end.ensures) in
    let here = slice_get_read c.args.lines.now (length c.args.lines.now) c.loop-n.n c.index-lines-n.result refl inside c.index-lines-n.is in (
      (λ yes. absurd (true≢false (sym yes))),
      (λ same. absurd (true≢false (sym (c.is_role_line.ensures.1
          (line_at (line_of_role c.args.loaded.now.names.roles.names) (case_loaded c.args.loaded.now).store.roles c.args.lines.now same c.loop-n.n c.role.result c.index-lines-n.result there here)) ∙ c.if-not-is_role_line.true))),
    )

pub loop-n-preserved : goal.loop-n-preserved
loop-n-preserved c =
    let roles_are : c.store-store.result.now.roles ≡ (case_loaded c.args.loaded.now).store.roles =
    ap (λ (s : Numbered). s.roles) c.store-store.ensures.store ∙ ap (λ (v : CaseView). v.store.roles) c.deref.ensures in
    let there : slice_get (case_loaded c.args.loaded.now).store.roles c.loop-n.n ≡ Some c.role.result = ap (λ (xs : List RoleNode). slice_get xs c.loop-n.n) (sym roles_are) ∙ c.role.ensures in
    let inside : c.loop-n.n < length c.args.lines.now = omega (arith, c.loop-n-test.true, c.loop-n.auto.n-end, c.if-lines-roles.false, c.roles.ensures, c.roles-n-end.ensures) in
    let here = slice_get_read c.args.lines.now (length c.args.lines.now) c.loop-n.n c.index-lines-n.result refl inside c.index-lines-n.is in
    line_more (line_of_role c.args.loaded.now.names.roles.names) (case_loaded c.args.loaded.now).store.roles c.args.lines.now c.loop-n.n c.role.result c.index-lines-n.result there here
    (c.is_role_line.ensures.0 c.if-not-is_role_line.false) c.loop-n.invariant

pub returns : goal.returns
returns c =
    let roles_are : c.store-store.result.now.roles ≡ (case_loaded c.args.loaded.now).store.roles =
    ap (λ (s : Numbered). s.roles) c.store-store.ensures.store ∙ ap (λ (v : CaseView). v.store.roles) c.deref.ensures in
    let count = ap (λ (xs : List RoleNode). length xs) roles_are in (
      (λ _. all_lines (line_of_role c.args.loaded.now.names.roles.names) (case_loaded c.args.loaded.now).store.roles c.args.lines.now
          (omega (arith, c.if-lines-roles.false, c.roles.ensures, count))
          (λ k x y below there here. c.loop-n.invariant k x y (omega (arith, below, count, c.loop-n-test.false, c.loop-n.auto.n-end, c.roles-n-end.ensures)) there here)),
      (λ _. refl),
    )
