-- What an item gives, by its form.
use Rattle.std.proofs.Common.{◌≡◌, ℕ, List, map, ap, sym, ◌∙◌}
use Rattle.std.specs.Prelude.{false, Option, Some, None}
use Rattle.ofn_lex.specs.declared.token.Token.{Token}
use Rattle.ofn_term.specs.declared.item.Item.{Item, fold-Item}
use Rattle.ofn_term.specs.declared.item.Item.TheOpen.{Item-F}
use Rattle.ofn_term.specs.declared.item.Item.TheFolds.{fold-roll-Item}
use Rattle.ofn_term.specs.declared.item.Item.TheVariants as item
use Rattle.ofn_term.specs.declared.item.Item.TheVariants.{rolls-Atom, rolls-Group}
use Rattle.ofn_term.specs.Words.{bytes_of}
use Rattle.ofn_heads.specs.Heads.{head_of}
use Rattle.ofn_heads.specs.declared.iri.Named.TheVariants.{NoIri}
use Rattle.text_names.specs.Prefixes.{Prefixes}
use Rattle.ofn_axiom.specs.declared.types.Mode.{Mode}
use Rattle.ofn_axiom.specs.Taking.{State}
use Rattle.ofn_axiom.specs.Given.{Given, given, given_step, given_atom, given_bare, given_group, ontology_group}

-- what a token gives
pub atom_gives : (text : List ℕ) (prefixes : Prefixes) (token : Token) → given text prefixes (item.Atom token) ≡ given_atom text prefixes token
unfolding given
atom_gives text prefixes token = ap (fold-Item Given (given_step text prefixes)) (sym (rolls-Atom token)) ∙ fold-roll-Item Given (given_step text prefixes) (Item-F.Atom token)

-- what a group without a head gives
pub bare_gives : (text : List ℕ) (prefixes : Prefixes) (items : List Item) (start end : ℕ) → given text prefixes (item.Group None items start end) ≡ given_bare start
unfolding given
bare_gives text prefixes items start end = ap (fold-Item Given (given_step text prefixes)) (sym (rolls-Group None items start end)) ∙ fold-roll-Item Given (given_step text prefixes) (Item-F.Group None items start end)

-- what a group with a head gives
pub group_gives : (text : List ℕ) (prefixes : Prefixes) (word : Token) (items : List Item) (start end : ℕ) → given text prefixes (item.Group (Some word) items start end) ≡ given_group text word.start (head_of (bytes_of text word)) (map (given text prefixes) items)
unfolding given
group_gives text prefixes word items start end = ap (fold-Item Given (given_step text prefixes)) (sym (rolls-Group (Some word) items start end)) ∙ fold-roll-Item Given (given_step text prefixes) (Item-F.Group (Some word) items start end)

-- a group is no IRI
pub group_has_no_name : (text : List ℕ) (prefixes : Prefixes) (head : Option Token) (items : List Item) (start end : ℕ) → (given text prefixes (item.Group head items start end)).name ≡ NoIri
group_has_no_name text prefixes None items start end = ap (λ (g : Given). g.name) (bare_gives text prefixes items start end)
group_has_no_name text prefixes (Some word) items start end = ap (λ (g : Given). g.name) (group_gives text prefixes word items start end)

-- nor one of the three parts of a prefix
pub group_has_no_parts : (text : List ℕ) (prefixes : Prefixes) (head : Option Token) (items : List Item) (start end : ℕ) → ((given text prefixes (item.Group head items start end)).prefix_name ≡ None) × ((given text prefixes (item.Group head items start end)).equals ≡ false) × ((given text prefixes (item.Group head items start end)).full ≡ None)
group_has_no_parts text prefixes None items start end =
    let e = bare_gives text prefixes items start end in
    (ap (λ (g : Given). g.prefix_name) e, ap (λ (g : Given). g.equals) e, ap (λ (g : Given). g.full) e)
group_has_no_parts text prefixes (Some word) items start end =
    let e = group_gives text prefixes word items start end in
    (ap (λ (g : Given). g.prefix_name) e, ap (λ (g : Given). g.equals) e, ap (λ (g : Given). g.full) e)

-- a group with a head as an ontology
pub ontology_gives : (text : List ℕ) (prefixes : Prefixes) (word : Token) (items : List Item) (start end : ℕ) (mode : Mode) (state : State) → (given text prefixes (item.Group (Some word) items start end)).ontology mode state ≡ ontology_group text (map (given text prefixes) items) mode state
ontology_gives text prefixes word items start end mode state = ap (λ (g : Given). g.ontology mode state) (group_gives text prefixes word items start end)
