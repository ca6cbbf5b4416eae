-- The text of evidence is read as the evidence, and what is read has the text.
use Rattle.std.proofs.Common.{◌≡◌, ℕ, ◌^◌, ◌<◌, Bool, true, false, cond, List, [], ◌∷◌, ◌++◌, length, map, Option, Some, None, Result, Ok, refl, sym, ap, subst, ◌∙◌, append_assoc}
use Rattle.std.specs.Prelude.{codes}
use Rattle.std.specs.List.{AllByRecursion}
use Rattle.el_logic.specs.declared.types.Side.{Side}
use Rattle.el_logic.specs.declared.types.Side.TheVariants as side
use Rattle.ofn_axiom.specs.declared.types.Omitted.{Omitted}
use Rattle.line_fields.specs.Lines.{Fields}
use Rattle.line_fields.specs.Reading.{At}
use Rattle.evidence_lines.specs.declared.types.SidedOmitted.{SidedOmitted}
use Rattle.evidence_lines.specs.declared.types.NodeLine.{NodeLine}
use Rattle.evidence_lines.specs.declared.types.RoleLine.{RoleLine}
use Rattle.evidence_lines.specs.Names.{node_fields, role_fields, HasNodeLine, HasRoleLine, node_of, role_of, IsNodeValue, IsRoleValue}
use Rattle.evidence_lines.specs.Omitted.{omitted_fields, omitted_of, omitted_before, ArePlaceNumbers}
use Rattle.evidence_text.specs.declared.types.EvidenceFault.{EvidenceFault}
use Rattle.evidence_text.specs.declared.types.EvidenceFault.TheVariants.{Line, Length}
use Rattle.evidence_lines.specs.declared.types.Kind.{Kind}
use Rattle.evidence_text.specs.declared.types.Body.{Body}
use Rattle.evidence_text.specs.declared.types.Evidence.{Evidence}
use Rattle.evidence_text.specs.EvidenceText.{section_lines, of_side, omitted_list, body_lines, evidence_lines, InOrder, HasText, IsEvidenceValue, plain, plain_body}
use Rattle.evidence_lines.specs.FirstLines.{version_fields, kind_fields, end_fields, version_of, kind_of, end_of}
use Rattle.evidence_text.specs.Reading.{◌>>=◌, next_line, first_line, section, any_order, may_follow, if_may_follow, ordered_omitted, on_side, by_side, body_by, no_more, ended, lines_read}
use Rattle.evidence_text.proofs.SectionLaws.{bound, ok_is, next_is, next_again, IsForm, AllFit, section_back, section_again, FitsAny, any_form, any_fit, any_parts}
use Rattle.evidence_text.proofs.BodyLaws.{LineLaws, body_back, body_again}

-- ---- axioms that are left out

abbrev pub FitsOmitted : Option SidedOmitted → SidedOmitted → Type 0
FitsOmitted before o = (may_follow before o ≡ true) × ArePlaceNumbers o

ordered_is : (before : Option SidedOmitted) (found : Option SidedOmitted) (o : SidedOmitted) → if_may_follow before found ≡ Some o → (found ≡ Some o) × (may_follow before o ≡ true)
ordered_is before None o e = absurd cc
ordered_is before (Some p) o e = by (may_follow before p) refl e
  where
    by : (b : Bool) → may_follow before p ≡ b → cond b (Some p) None ≡ Some o → (Some p ≡ Some o) × (may_follow before o ≡ true)
    by true t e = let same : p ≡ o = cc in (e, subst (λ q. may_follow before q ≡ true) same t)
    by false t e = absurd cc

pub omitted_form : LineLaws → IsForm ordered_omitted omitted_fields FitsOmitted
omitted_form laws = record {
  back = λ before fields o e.
      let is = ordered_is before (omitted_of fields) o e in
      let b = laws.omitted.back fields o is.0 in (b.0, (is.1, b.2));
  again = λ before o fits. ap (λ f. if_may_follow before f) (laws.omitted.again o tt fits.1) ∙ ap (λ b. cond b (Some o) None) fits.0;
  line = λ before o fits. laws.omitted.line o tt fits.1;
}

omitted_order : (before : Option SidedOmitted) (os : List SidedOmitted) → AllFit FitsOmitted before os → InOrder omitted_before before os × AllByRecursion ArePlaceNumbers os
omitted_order before [] fit = (tt, tt)
omitted_order None (o ∷ os) fit = let later = omitted_order (Some o) os fit.1 in (later.0, (fit.0.1, later.1))
omitted_order (Some before) (o ∷ os) fit = let later = omitted_order (Some o) os fit.1 in ((fit.0.0, later.0), (fit.0.1, later.1))

pub omitted_fit : (before : Option SidedOmitted) (os : List SidedOmitted) → InOrder omitted_before before os → AllByRecursion ArePlaceNumbers os → AllFit FitsOmitted before os
omitted_fit before [] order numbers = tt
omitted_fit None (o ∷ os) order numbers = ((refl, numbers.0), omitted_fit (Some o) os order numbers.1)
omitted_fit (Some before) (o ∷ os) order numbers = ((order.0, numbers.0), omitted_fit (Some o) os order.1 numbers.1)

-- lists of both documents, one after the other, are told apart
right_sides : (right : List Omitted) → by_side (map (of_side side.Right) right) ≡ record { left = []; right = right }
right_sides [] = refl
right_sides (o ∷ os) = ap (λ rest. on_side side.Right rest o) (right_sides os)

both_sides : (left right : List Omitted) → by_side (map (of_side side.Left) left ++ map (of_side side.Right) right) ≡ record { left = left; right = right }
both_sides [] right = right_sides right
both_sides (o ∷ os) right = ap (λ rest. on_side side.Left rest o) (both_sides os right)

-- these are all of RIGHT
record AreRight (os : List SidedOmitted) : Type 0 where
  all : os ≡ map (of_side side.Right) (by_side os).right
  left : (by_side os).left ≡ []

right_more : (before next : Omitted) (s : Side) (os : List SidedOmitted) → omitted_before (of_side side.Right before) (of_side s next) ≡ true
    → InOrder omitted_before (Some (of_side s next)) os → ((o : Omitted) → InOrder omitted_before (Some (of_side side.Right o)) os → AreRight os) → AreRight (of_side s next ∷ os)
right_more before next side.Left os first order later = absurd cc
right_more before next side.Right os first order later =
    let rest = later next order in record { all = ap (λ l. of_side side.Right next ∷ l) rest.all; left = rest.left }

-- after one of RIGHT there are only those of RIGHT
all_right : (before : Omitted) (os : List SidedOmitted) → InOrder omitted_before (Some (of_side side.Right before)) os → AreRight os
all_right before [] order = record { all = refl; left = refl }
all_right before (o ∷ os) order = right_more before o.omitted o.side os order.0 order.1 (λ next rest. all_right next os rest)

order_rest : (before : Option SidedOmitted) (o : SidedOmitted) (os : List SidedOmitted) → InOrder omitted_before before (o ∷ os) → InOrder omitted_before (Some o) os
order_rest None o os order = order
order_rest (Some b) o os order = order.1

side_more : (s : Side) (o : Omitted) (os : List SidedOmitted) → InOrder omitted_before (Some (of_side s o)) os → omitted_list (by_side os) ≡ os
    → omitted_list (by_side (of_side s o ∷ os)) ≡ of_side s o ∷ os
side_more side.Left o os order later = ap (λ l. of_side side.Left o ∷ l) later
side_more side.Right o os order later =
    let rest = all_right o os order in
    ap (λ l. map (of_side side.Left) l ++ (of_side side.Right o ∷ map (of_side side.Right) (by_side os).right)) rest.left
    ∙ ap (λ l. of_side side.Right o ∷ l) (sym rest.all)

sides_back : (before : Option SidedOmitted) (os : List SidedOmitted) → InOrder omitted_before before os → omitted_list (by_side os) ≡ os
sides_back before [] order = refl
sides_back before (o ∷ os) order =
    let rest = order_rest before o os order in side_more o.side o.omitted os rest (sides_back (Some o) os rest)

-- ---- whole evidence

abbrev made_of : Kind → List SidedOmitted → List NodeLine → List RoleLine → Body → Evidence
made_of k o n r b = record { kind = k; omitted = by_side o; nodes = n; roles = r; body = b }

abbrev after_roles : Kind → List SidedOmitted → List NodeLine → (List RoleLine × At) → Result Evidence EvidenceFault
after_roles k o n roles = body_by k roles.1 >>= λ body. ended (made_of k o n roles.0 body.0) body.1

abbrev after_nodes : Kind → List SidedOmitted → (List NodeLine × At) → Result Evidence EvidenceFault
after_nodes k o nodes = section (codes "roles") (any_order role_of) nodes.1 >>= after_roles k o nodes.0

abbrev after_omitted : Kind → (List SidedOmitted × At) → Result Evidence EvidenceFault
after_omitted k omitted = section (codes "nodes") (any_order node_of) omitted.1 >>= after_nodes k omitted.0

abbrev after_kind : (Kind × At) → Result Evidence EvidenceFault
after_kind kind = section (codes "omitted") ordered_omitted kind.1 >>= after_omitted kind.0

abbrev after_version : (Unit {0} × At) → Result Evidence EvidenceFault
after_version version = first_line kind_of version.1 >>= after_kind

no_more_is : {X : Type 0} → (x y : X) (read : ℕ) (lines : List Fields) → no_more x read lines ≡ Ok y → (lines ≡ []) × (x ≡ y)
no_more_is x y read [] e = (refl, ok_is x y e)
no_more_is x y read (fields ∷ lines) e = absurd cc

record IsEnded (made e : Evidence) (lines : List Fields) : Type 0 where
  whole : lines ≡ end_fields ∷ []
  same : made ≡ e

ended_is : LineLaws → (made e : Evidence) (at : At) → ended made at ≡ Ok e → IsEnded made e at.lines
ended_is laws made e at is =
    let end = bound (first_line end_of at) (λ end. no_more made end.1.read end.1.lines) e is in
    let next = next_is end_of (Length at.read) at end.found end.is in
    let last = no_more_is made e end.found.1.read end.found.1.lines end.later in
    record { whole = next.lines ∙ ap (λ f. f ∷ end.found.1.lines) (laws.end.back next.fields end.found.0 next.is).0 ∙ ap (λ l. end_fields ∷ l) last.0; same = last.1 }

ended_again : (e : Evidence) (read : ℕ) → ended e (record { read = read; lines = end_fields ∷ [] }) ≡ Ok e
ended_again e read = refl

lists_parts : (o n r more : List Fields) → (o ++ (n ++ r)) ++ more ≡ o ++ (n ++ (r ++ more))
lists_parts o n r more = simp append_assoc

pub record IsWhole (lines : List Fields) (e : Evidence) : Type 0 where
  pub whole : lines ≡ evidence_lines e
  pub has : HasText e
  pub is : IsEvidenceValue e
  pub same : plain e ≡ e

pub lines_back : LineLaws → (at : At) (e : Evidence) → lines_read at ≡ Ok e → IsWhole at.lines e
unfolding lines_read
lines_back laws at e eq =
    let v = bound (next_line version_of (Line 1) at) after_version e eq in
    let k = bound (first_line kind_of v.found.1) after_kind e v.later in
    let o = bound (section (codes "omitted") ordered_omitted k.found.1) (after_omitted k.found.0) e k.later in
    let n = bound (section (codes "nodes") (any_order node_of) o.found.1) (after_nodes k.found.0 o.found.0) e o.later in
    let r = bound (section (codes "roles") (any_order role_of) n.found.1) (after_roles k.found.0 o.found.0 n.found.0) e n.later in
    let b = bound (body_by k.found.0 r.found.1) (λ body. ended (made_of k.found.0 o.found.0 n.found.0 r.found.0 body.0) body.1) e r.later in
    let made = made_of k.found.0 o.found.0 n.found.0 r.found.0 b.found.0 in
    let end = ended_is laws made e b.found.1 b.later in
    let vn = next_is version_of (Line 1) at v.found v.is in
    let kn = next_is kind_of (Length v.found.1.read) v.found.1 k.found k.is in
    let os = section_back laws.counts ordered_omitted omitted_fields FitsOmitted (omitted_form laws) (codes "omitted") refl k.found.1 o.found o.is in
    let ns = section_back laws.counts (any_order node_of) node_fields (FitsAny HasNodeLine IsNodeValue) (any_form node_of node_fields HasNodeLine IsNodeValue laws.nodes) (codes "nodes") refl o.found.1 n.found n.is in
    let rs = section_back laws.counts (any_order role_of) role_fields (FitsAny HasRoleLine IsRoleValue) (any_form role_of role_fields HasRoleLine IsRoleValue laws.roles) (codes "roles") refl n.found.1 r.found r.is in
    let bs = body_back laws k.found.0 r.found.1 b.found b.is in
    let order = omitted_order None o.found.0 os.fit in
    let nodes = any_parts HasNodeLine IsNodeValue None n.found.0 ns.fit in
    let roles = any_parts HasRoleLine IsRoleValue None r.found.0 rs.fit in
    let sides = sides_back None o.found.0 order.0 in
    let O : List SidedOmitted → List Fields = λ l. section_lines (codes "omitted") omitted_fields l in
    let N = section_lines (codes "nodes") node_fields n.found.0 in
    let R = section_lines (codes "roles") role_fields r.found.0 in
    let B = body_lines b.found.0 ++ end_fields ∷ [] in
    let rest : k.found.1.lines ≡ O o.found.0 ++ (N ++ (R ++ B)) =
    os.whole ∙ ap (λ l. O o.found.0 ++ l) (ns.whole ∙ ap (λ l. N ++ l) (rs.whole ∙ ap (λ l. R ++ l) (bs.whole ∙ ap (λ l. body_lines b.found.0 ++ l) end.whole))) in
    let whole : at.lines ≡ evidence_lines made =
    vn.lines ∙ ap (λ f. f ∷ v.found.1.lines) (laws.version.back vn.fields v.found.0 vn.is).0
    ∙ ap (λ l. version_fields ∷ l) (kn.lines ∙ ap (λ f. f ∷ k.found.1.lines) (laws.kinds.back kn.fields k.found.0 kn.is).0
    ∙ ap (λ l. kind_fields k.found.0 ∷ l) (rest ∙ sym (lists_parts (O o.found.0) N R B) ∙ ap (λ l. (O l ++ (N ++ R)) ++ B) (sym sides))) in
    subst (λ x. IsWhole at.lines x) end.same (record {
      whole = whole;
      has = record { omitted = subst (λ l. InOrder omitted_before None l) (sym sides) order.0; nodes = nodes.0; roles = roles.0; body = bs.has };
      is = record {
        omitted_count = subst (λ l. length l < 2 ^ 64) (sym sides) os.count;
        omitted = subst (λ l. AllByRecursion ArePlaceNumbers l) (sym sides) order.1;
        nodes_count = ns.count;
        nodes = nodes.1;
        roles_count = rs.count;
        roles = roles.1;
        body = bs.numbers;
      };
      same = ap (λ x. record made { body = x }) bs.plain;
    })

pub lines_again : LineLaws → (e : Evidence) → HasText e → IsEvidenceValue e → lines_read (record { read = 0; lines = evidence_lines e }) ≡ Ok (plain e)
unfolding lines_read
lines_again laws e has is =
    let list = omitted_list e.omitted in
    let O = section_lines (codes "omitted") omitted_fields (omitted_list e.omitted) in
    let N = section_lines (codes "nodes") node_fields e.nodes in
    let R = section_lines (codes "roles") role_fields e.roles in
    let B = body_lines e.body ++ end_fields ∷ [] in
    let start : List Fields → At = λ l. record { read = 0; lines = version_fields ∷ kind_fields e.kind ∷ l } in
    let version = next_again version_of (Line 1) 0 version_fields (kind_fields e.kind ∷ (O ++ (N ++ (R ++ B)))) tt refl in
    let kind = next_again kind_of (Length 1) 1 (kind_fields e.kind) (O ++ (N ++ (R ++ B))) e.kind (laws.kinds.again e.kind tt tt) in
    let os = section_again laws.counts ordered_omitted omitted_fields FitsOmitted (omitted_form laws) (codes "omitted") refl (omitted_list e.omitted) 2 (N ++ (R ++ B)) is.omitted_count
    (omitted_fit None (omitted_list e.omitted) has.omitted is.omitted) in
    let ns = section_again laws.counts (any_order node_of) node_fields (FitsAny HasNodeLine IsNodeValue) (any_form node_of node_fields HasNodeLine IsNodeValue laws.nodes) (codes "nodes") refl e.nodes os.read (R ++ B) is.nodes_count
    (any_fit HasNodeLine IsNodeValue None e.nodes has.nodes is.nodes) in
    let rs = section_again laws.counts (any_order role_of) role_fields (FitsAny HasRoleLine IsRoleValue) (any_form role_of role_fields HasRoleLine IsRoleValue laws.roles) (codes "roles") refl e.roles ns.read B is.roles_count
    (any_fit HasRoleLine IsRoleValue None e.roles has.roles is.roles) in
    let bs = body_again laws e.kind e.body rs.read (end_fields ∷ []) has.body is.body in
    ap (λ l. next_line version_of (Line 1) (start l) >>= after_version) (lists_parts O N R B)
    ∙ ap (λ r. r >>= after_version) version
    ∙ ap (λ r. r >>= after_kind) kind
    ∙ ap (λ r. r >>= after_omitted e.kind) os.is
    ∙ ap (λ r. r >>= after_nodes e.kind (omitted_list e.omitted)) ns.is
    ∙ ap (λ r. r >>= after_roles e.kind (omitted_list e.omitted) e.nodes) rs.is
    ∙ ap (λ r. r >>= λ body. ended (made_of e.kind (omitted_list e.omitted) e.nodes e.roles body.0) body.1) bs.is
    ∙ ap (λ o. Ok (record { kind = e.kind; omitted = o; nodes = e.nodes; roles = e.roles; body = plain_body e.body })) (both_sides e.omitted.left e.omitted.right)
