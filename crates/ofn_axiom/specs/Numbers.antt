-- Names in order of the text, and numbers in their place.
use Rattle.std.specs.Prelude.{ℕ, Bool, not, ◌&&◌, ◌==◌, if◌then◌else◌, List, [], ◌∷◌, ◌++◌, length, map, Result, Ok, Err, unwrap_or}
use Rattle.el_logic.specs.declared.types.Expr.{Expr}
use Rattle.el_logic.specs.declared.types.Expr.TheVariants as el
use Rattle.el_logic.specs.declared.types.Axiom.{Axiom}
use Rattle.el_logic.specs.declared.types.Axiom.TheVariants as el_axiom
use Rattle.text_names.specs.Names.{Numbering, number_of, is_held, with_name}
use Rattle.ofn_axiom.specs.declared.fault.OffsetFault.{OffsetFault}
use Rattle.ofn_axiom.specs.declared.fault.OffsetFault.TheVariants as fault
use Rattle.ofn_axiom.specs.declared.types.IriExpr.{IriExpr, fold-IriExpr}
use Rattle.ofn_axiom.specs.declared.types.IriExpr.TheOpen.{IriExpr-F}
use Rattle.ofn_axiom.specs.declared.types.IriAxiom.{IriAxiom}
use Rattle.ofn_axiom.specs.declared.types.IriAxiom.TheVariants as ax
use Rattle.ofn_axiom.specs.declared.types.Direct.{Direct}
use Rattle.ofn_axiom.specs.declared.types.Direct.TheVariants as direct
use Rattle.ofn_axiom.specs.declared.types.Mention.{Mention}
use Rattle.ofn_axiom.specs.declared.types.Mention.TheVariants as mention
use Rattle.ofn_axiom.specs.declared.types.Names.{Names}
use Rattle.ofn_axiom.specs.Steps.{◌>>=◌}

-- lists, one after another
abbrev pub joined : List (List Mention) → List Mention
joined [] = []
joined (x ∷ xs) = x ++ joined xs

abbrev pub mention_step : IriExpr-F (List Mention) → List Mention
mention_step IriExpr-F.Top = []
mention_step IriExpr-F.Bottom = []
mention_step (IriExpr-F.Class iri) = mention.Class iri ∷ []
mention_step (IriExpr-F.And parts) = joined parts
mention_step (IriExpr-F.Exists iri filler) = mention.Property iri ∷ filler

-- the names of a class expression in order of the text
unfoldable pub mentions : IriExpr → List Mention
mentions = fold-IriExpr (List Mention) mention_step

abbrev pub all_mentions : List IriExpr → List Mention
all_mentions classes = joined (map mentions classes)

abbrev pub properties : List (List ℕ) → List Mention
properties [] = []
properties (iri ∷ iris) = mention.Property iri ∷ properties iris

-- the names of an axiom in order of the text
abbrev pub axiom_mentions : IriAxiom → List Mention
axiom_mentions (ax.SubClass c d) = mentions c ++ mentions d
axiom_mentions (ax.Equivalent cs) = all_mentions cs
axiom_mentions (ax.Disjoint cs) = all_mentions cs
axiom_mentions (ax.SubRole chain s) = properties chain ++ mention.Property s ∷ []
axiom_mentions (ax.EquivalentRoles rs) = properties rs
axiom_mentions (ax.Transitive r) = mention.Property r ∷ []
axiom_mentions (ax.Reflexive r) = mention.Property r ∷ []
axiom_mentions (ax.Domain r c) = mention.Property r ∷ mentions c

-- the names that a direct item has
abbrev pub direct_mentions : Direct → List Mention
direct_mentions direct.Nothing = []
direct_mentions (direct.Class iri) = mention.Class iri ∷ []
direct_mentions (direct.Property iri) = mention.Property iri ∷ []
direct_mentions (direct.Axiom a) = axiom_mentions a

-- the name is new, and no more names may be held
abbrev pub is_full_for : Numbering → List ℕ → Bool
is_full_for table name = not (is_held table.names name) && (length table.names == table.most)

-- a table with one more name, unless it is held
abbrev pub held_in : Numbering → List ℕ → Numbering
held_in table name = record { names = with_name table.names name; most = table.most }

-- the names with one more
abbrev pub with_mention : Mention → Names → Result Names OffsetFault
with_mention (mention.Class name) names =
    if is_full_for names.classes name then Err fault.TooManyClasses else
    Ok (record { classes = held_in names.classes name; roles = names.roles })
with_mention (mention.Property name) names =
    if is_full_for names.roles name then Err fault.TooManyProperties else
    Ok (record { classes = names.classes; roles = held_in names.roles name })

-- the names with these, each in its turn
abbrev pub with_mentions : List Mention → Names → Result Names OffsetFault
with_mentions [] names = Ok names
with_mentions (m ∷ ms) names = with_mention m names >>= λ more. with_mentions ms more

-- the number of a name that is held
abbrev pub number_in : Numbering → List ℕ → ℕ
number_in table name = unwrap_or (number_of table.names name) 0

abbrev pub expr_step : Names → IriExpr-F Expr → Expr
expr_step names IriExpr-F.Top = el.Top
expr_step names IriExpr-F.Bottom = el.Bottom
expr_step names (IriExpr-F.Class iri) = el.Name (number_in names.classes iri)
expr_step names (IriExpr-F.And parts) = el.And parts
expr_step names (IriExpr-F.Exists iri filler) = el.Exists (number_in names.roles iri) filler

-- a class expression with numbers in place of names
unfoldable pub expr_over : Names → IriExpr → Expr
expr_over names = fold-IriExpr Expr (expr_step names)

-- an axiom with numbers in place of names
abbrev pub axiom_over : Names → IriAxiom → Axiom
axiom_over names (ax.SubClass c d) = el_axiom.SubClass (expr_over names c) (expr_over names d)
axiom_over names (ax.Equivalent cs) = el_axiom.Equivalent (map (expr_over names) cs)
axiom_over names (ax.Disjoint cs) = el_axiom.Disjoint (map (expr_over names) cs)
axiom_over names (ax.SubRole chain s) =
    el_axiom.SubRole (map (number_in names.roles) chain) (number_in names.roles s)
axiom_over names (ax.EquivalentRoles rs) = el_axiom.EquivalentRoles (map (number_in names.roles) rs)
axiom_over names (ax.Transitive r) = el_axiom.Transitive (number_in names.roles r)
axiom_over names (ax.Reflexive r) = el_axiom.Reflexive (number_in names.roles r)
axiom_over names (ax.Domain r c) = el_axiom.Domain (number_in names.roles r) (expr_over names c)
