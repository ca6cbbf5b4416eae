-- Names of class expressions, numbers in their place, and tables that only grow.
use Rattle.std.proofs.Common.{◌≡◌, ℕ, Bool, true, false, List, [], ◌∷◌, ◌++◌, length, map, refl, ap, sym, ◌∙◌, arith}
use Rattle.std.specs.Prelude.{◌==◌}
use Rattle.std.proofs.lemmas.List.{append-nil, append_assoc}
use Rattle.std.proofs.lemmas.Bool.Decides.{nat_tests}
use Rattle.el_logic.specs.declared.types.Expr.{Expr}
use Rattle.el_logic.specs.declared.types.Expr.TheVariants as el
use Rattle.text_names.specs.Names.{Numbering, is_held, with_name, IsFullFor}
use Rattle.ofn_axiom.specs.declared.types.IriExpr.{IriExpr, fold-IriExpr}
use Rattle.ofn_axiom.specs.declared.types.IriExpr.TheOpen.{IriExpr-F}
use Rattle.ofn_axiom.specs.declared.types.IriExpr.TheFolds.{fold-roll-IriExpr}
use Rattle.ofn_axiom.specs.declared.types.IriExpr.TheVariants as expr
use Rattle.ofn_axiom.specs.declared.types.IriExpr.TheVariants.{rolls-Top, rolls-Bottom, rolls-Class, rolls-And, rolls-Exists}
use Rattle.ofn_axiom.specs.declared.types.Mention.{Mention}
use Rattle.ofn_axiom.specs.declared.types.Mention.TheVariants as mention
use Rattle.ofn_axiom.specs.declared.types.Names.{Names}
use Rattle.ofn_axiom.specs.Numbers.{mentions, mention_step, all_mentions, is_full_for, number_in, expr_over, expr_step}
use Rattle.ofn_axiom.specs.Taking.{IsTableBefore, IsNamesBefore}

-- the names of an expression, by its form
pub mentions_top : mentions expr.Top ≡ []
unfolding mentions
mentions_top = ap (fold-IriExpr (List Mention) mention_step) (sym rolls-Top) ∙ fold-roll-IriExpr (List Mention) mention_step IriExpr-F.Top

pub mentions_bottom : mentions expr.Bottom ≡ []
unfolding mentions
mentions_bottom = ap (fold-IriExpr (List Mention) mention_step) (sym rolls-Bottom) ∙ fold-roll-IriExpr (List Mention) mention_step IriExpr-F.Bottom

pub mentions_class : (iri : List ℕ) → mentions (expr.Class iri) ≡ mention.Class iri ∷ []
unfolding mentions
mentions_class iri = ap (fold-IriExpr (List Mention) mention_step) (sym (rolls-Class iri)) ∙ fold-roll-IriExpr (List Mention) mention_step (IriExpr-F.Class iri)

pub mentions_and : (classes : List IriExpr) → mentions (expr.And classes) ≡ all_mentions classes
unfolding mentions
mentions_and classes = ap (fold-IriExpr (List Mention) mention_step) (sym (rolls-And classes)) ∙ fold-roll-IriExpr (List Mention) mention_step (IriExpr-F.And classes)

pub mentions_exists : (iri : List ℕ) (filler : IriExpr) → mentions (expr.Exists iri filler) ≡ mention.Property iri ∷ mentions filler
unfolding mentions
mentions_exists iri filler = ap (fold-IriExpr (List Mention) mention_step) (sym (rolls-Exists iri filler)) ∙ fold-roll-IriExpr (List Mention) mention_step (IriExpr-F.Exists iri filler)

-- an expression over numbers, by its form
pub over_top : (names : Names) → expr_over names expr.Top ≡ el.Top
unfolding expr_over
over_top names = ap (fold-IriExpr Expr (expr_step names)) (sym rolls-Top) ∙ fold-roll-IriExpr Expr (expr_step names) IriExpr-F.Top

pub over_bottom : (names : Names) → expr_over names expr.Bottom ≡ el.Bottom
unfolding expr_over
over_bottom names = ap (fold-IriExpr Expr (expr_step names)) (sym rolls-Bottom) ∙ fold-roll-IriExpr Expr (expr_step names) IriExpr-F.Bottom

pub over_class : (names : Names) (iri : List ℕ) → expr_over names (expr.Class iri) ≡ el.Name (number_in names.classes iri)
unfolding expr_over
over_class names iri = ap (fold-IriExpr Expr (expr_step names)) (sym (rolls-Class iri)) ∙ fold-roll-IriExpr Expr (expr_step names) (IriExpr-F.Class iri)

pub over_and : (names : Names) (classes : List IriExpr) → expr_over names (expr.And classes) ≡ el.And (map (expr_over names) classes)
unfolding expr_over
over_and names classes = ap (fold-IriExpr Expr (expr_step names)) (sym (rolls-And classes)) ∙ fold-roll-IriExpr Expr (expr_step names) (IriExpr-F.And classes)

pub over_exists : (names : Names) (iri : List ℕ) (filler : IriExpr) → expr_over names (expr.Exists iri filler) ≡ el.Exists (number_in names.roles iri) (expr_over names filler)
unfolding expr_over
over_exists names iri filler = ap (fold-IriExpr Expr (expr_step names)) (sym (rolls-Exists iri filler)) ∙ fold-roll-IriExpr Expr (expr_step names) (IriExpr-F.Exists iri filler)

-- more after one
pub after_one : {X : Type 0} (before : List X) (x : X) (after : List X) → (before ++ x ∷ []) ++ after ≡ before ++ x ∷ after
after_one before x after = append_assoc before (x ∷ []) after

-- nothing more
pub none_after : {X : Type 0} (before after : List X) → after ≡ [] → before ≡ before ++ after
none_after before after none = sym (append-nil before) ∙ ap (λ l. before ++ l) (sym none)

-- a name for which the table is not full
pub room : (table : Numbering) (name : List ℕ) → (IsFullFor table name → ⊥) → is_full_for table name ≡ false
room table name free = by (is_held table.names name) (length table.names == table.most) refl refl
  where
    by : (b c : Bool) → is_held table.names name ≡ b → (length table.names == table.most) ≡ c → is_full_for table name ≡ false
    by true c held same = rw held refl
    by false true held same = absurd (free (held, grind (arith, nat_tests)))
    by false false held same = rw (held, same) refl

-- a name for which it is
pub no_room : (table : Numbering) (name : List ℕ) → IsFullFor table name → is_full_for table name ≡ true
no_room table name full = let same : (length table.names == table.most) ≡ true = grind (arith, nat_tests) in rw (full.0, same) refl

-- a table stays as it is
pub table_same : (table new : Numbering) → new ≡ table → IsTableBefore table new
table_same table new same = record { more = []; names = ap (λ (t : Numbering). t.names) same ∙ sym (append-nil table.names); most = ap (λ (t : Numbering). t.most) same }

-- or has one more name
pub table_with_name : (table new : Numbering) (name : List ℕ) → new.names ≡ with_name table.names name → new.most ≡ table.most → IsTableBefore table new
table_with_name table new name names most = by (is_held table.names name) refl
  where
    by : (b : Bool) → is_held table.names name ≡ b → IsTableBefore table new
    by true held = let same : with_name table.names name ≡ table.names = rw held refl in record { more = []; names = names ∙ same ∙ sym (append-nil table.names); most = most }
    by false held = let same : with_name table.names name ≡ table.names ++ name ∷ [] = rw held refl in record { more = name ∷ []; names = names ∙ same; most = most }

-- a table before another, and this one before a third
pub table_later : (a b c : Numbering) → IsTableBefore a b → IsTableBefore b c → IsTableBefore a c
table_later a b c first second = record {
  more = first.more ++ second.more;
  names = second.names ∙ ap (λ (l : List (List ℕ)). l ++ second.more) first.names ∙ append_assoc a.names first.more second.more;
  most = second.most ∙ first.most;
}

-- the same of both tables
pub names_same : (a : Names) → IsNamesBefore a a
names_same a = record { classes = table_same a.classes a.classes refl; roles = table_same a.roles a.roles refl }

pub names_later : (a b c : Names) → IsNamesBefore a b → IsNamesBefore b c → IsNamesBefore a c
names_later a b c first second = record {
  classes = table_later a.classes b.classes c.classes first.classes second.classes;
  roles = table_later a.roles b.roles c.roles first.roles second.roles;
}
