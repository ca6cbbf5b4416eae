-- The names that a document holds, and what it leaves out.
use Rattle.std.proofs.Common.{ℕ, List, [], ◌∷◌, ◌++◌, All, refl, sym, subst}
use Rattle.std.specs.Prelude.{codes}
use Rattle.std.proofs.lemmas.List.Elements.{All-nil, All-head, All-tail, All-push, All-from_recursion}
use Rattle.byte_words.specs.Fronts.{without_mark}
use Rattle.text_names.specs.declared.limits.Limits.{Limits}
use Rattle.text_names.specs.Prefixes.{Prefixes}
use Rattle.ofn_lex.specs.Texts.{IsTokenOf}
use Rattle.ofn_term.specs.declared.item.Item.{Item}
use Rattle.ofn_term.specs.declared.item.Item.TheVariants as item
use Rattle.ofn_term.specs.Texts.{HasItems}
use Rattle.ofn_term.specs.Writing.{tokens_of}
use Rattle.ofn_heads.specs.Names.{known}
use Rattle.ofn_axiom.specs.declared.types.Document.{Document}
use Rattle.ofn_axiom.specs.declared.types.Mention.{Mention}
use Rattle.ofn_axiom.specs.declared.types.Names.{Names}
use Rattle.ofn_axiom.specs.declared.types.Mode.{Mode}
use Rattle.ofn_axiom.specs.Numbers.{direct_mentions}
use Rattle.ofn_axiom.specs.Taking.{State}
use Rattle.ofn_axiom.specs.Documents.{empty, IsReading}
use Rattle.ofn_axiom.specs.DocumentText.{IsPrefix, equated, ArePrefixes, none, new, again, AreHeld, no_more, held_class, new_class, held_property, new_property, IsTaken, said, omitted, AreTaken, all_taken, one_taken, IsOntology, ontology, IsDocument, document, IsDocumentText}
use Rattle.case_load.specs.Loads.{Inputs, IsLoaded}
use Rattle.case_load.specs.declared.texts.Loaded.{Loaded}
use Rattle.loaded_names.specs.Iris as iris
use Rattle.loaded_names.proofs.Bytes.{Passes, all_pass, pass_all}
use Rattle.loaded_names.proofs.Written.{Written, AreTokens, first_item, other_items, last_items, first_items, front_items, atom_token, inner_tokens}
use Rattle.loaded_names.proofs.Tokens.{HavePassing, full_passes}
use Rattle.loaded_names.proofs.Mentions.{MentionsPass, direct_passes}

-- ---- names

-- the names that are held pass
pub record NamesPass (names : Names) : Type 0 where
  pub classes : All (All Passes) names.classes.names
  pub roles : All (All Passes) names.roles.names

held_pass : (ms : List Mention) (old more : Names) → MentionsPass ms → NamesPass old → AreHeld ms old more → NamesPass more
held_pass _ _ _ p old (no_more names) = old
held_pass _ _ _ p old (held_class name ms names more is rest) = held_pass ms names more p.1 old rest
held_pass _ _ _ p old (new_class name ms names more is room rest) =
    held_pass ms _ more p.1 (record { classes = All-push (All Passes) names.classes.names name old.classes p.0; roles = old.roles }) rest
held_pass _ _ _ p old (held_property name ms names more is rest) = held_pass ms names more p.1 old rest
held_pass _ _ _ p old (new_property name ms names more is room rest) =
    held_pass ms _ more p.1 (record { classes = old.classes; roles = All-push (All Passes) names.roles.names name old.roles p.0 }) rest

-- the IRIs of prefixes that are known from the start
known_pass : HavePassing known
known_pass = All-from_recursion (λ both. All Passes both.1) known (
  pass_all (codes "http://www.w3.org/1999/02/22-rdf-syntax-ns#") refl,
  (
    pass_all (codes "http://www.w3.org/2000/01/rdf-schema#") refl,
    (pass_all (codes "http://www.w3.org/2001/XMLSchema#") refl, (pass_all (codes "http://www.w3.org/2002/07/owl#") refl, tt)),
  ),
)

module _ (written : Written) (text : List ℕ) where
  prefixes_pass : (old more : Prefixes) (is : List Item) → HavePassing old → AreTokens written text is → ArePrefixes text old is more → HavePassing more
  prefixes_pass _ _ _ old are (none prefixes) = old
  prefixes_pass _ _ _ old are (new prefixes more i is prefix iri of fresh rest) =
      prefixes_pass _ more is (All-push (λ both. All Passes both.1) prefixes (prefix, iri) old (prefix_passes i prefix iri (first_item written text i is are) of)) (other_items written text i is are) rest
    where
      prefix_passes : (i : Item) (prefix iri : List ℕ) → AreTokens written text (i ∷ []) → IsPrefix text i prefix iri → All Passes iri
      prefix_passes _ _ _ are (equated word name equals full start end prefix iri at named equal kind between) =
          let inner = inner_tokens written text word (item.Atom name ∷ item.Atom equals ∷ item.Atom full ∷ []) start end [] are in
          let third = other_items written text (item.Atom equals) (item.Atom full ∷ []) (other_items written text (item.Atom name) (item.Atom equals ∷ item.Atom full ∷ []) inner) in
          subst (All Passes) (sym between) (full_passes text full (atom_token written text full [] third) kind)
  prefixes_pass _ _ _ old are (again prefixes more i is prefix iri of same rest) = prefixes_pass prefixes more is old (other_items written text i is are) rest

  module _ (prefixes : Prefixes) (held : HavePassing prefixes) (mode : Mode) where
    taken_passes : (i : Item) (state next : State) → AreTokens written text (i ∷ []) → NamesPass state.1 → IsTaken text prefixes mode i state next → NamesPass next.1
    taken_passes _ _ _ are old (said i d state more is held_more) = held_pass (direct_mentions d) state.1 more (direct_passes written text prefixes held i d are is) old held_more
    taken_passes _ _ _ are old (omitted i at outside state el is) = old

    all_taken_pass : (is : List Item) (state last : State) → AreTokens written text is → NamesPass state.1 → AreTaken text prefixes mode is state last → NamesPass last.1
    all_taken_pass _ _ _ are old (all_taken state) = old
    all_taken_pass _ _ _ are old (one_taken i is state next last first rest) =
        all_taken_pass is next last (other_items written text i is are) (taken_passes i state next (first_item written text i is are) old first) rest

    ontology_passes : (o : Item) (state last : State) → AreTokens written text (o ∷ []) → NamesPass state.1 → IsOntology text prefixes mode o state last → NamesPass last.1
    ontology_passes _ _ _ are old (ontology word iris directs start end state last at names few taken) =
        all_taken_pass directs state last (last_items written text iris directs (inner_tokens written text word (iris ++ directs) start end [] are)) old taken

  document_passes : (mode : Mode) (is : List Item) (state last : State) → AreTokens written text is → NamesPass state.1 → IsDocument text mode is state last → NamesPass last.1
  document_passes mode _ _ _ are old (document before o prefixes state last declared is) =
      ontology_passes prefixes (prefixes_pass known prefixes before known_pass (front_items written text before (o ∷ []) are) declared) mode o state last
      (first_items written text o before [] are) old is

-- ---- what is loaded

-- the laws of lower crates that this rests on
pub record Cited : Type 0 where
  pub written : Written
  pub says : (text : List ℕ) (mode : Mode) (depth : ℕ) (old new : Names) (document : Document)
      → IsReading text mode depth old new document → IsDocumentText text mode depth old new document
  pub each : (text : List ℕ) (most : ℕ) (items : List Item) → HasItems text most items → All (IsTokenOf text) (tokens_of items)

module _ (cited : Cited) where
  reading_passes : (text : List ℕ) (mode : Mode) (depth : ℕ) (before after : Names) (d : Document) → NamesPass before → IsReading text mode depth before after d → NamesPass after
  reading_passes text mode depth before after d pass reading =
      let is = cited.says text mode depth before after d reading in
      document_passes cited.written text mode is.items (empty, before) (d, after) (cited.each text depth is.items is.has) pass is.says

  -- names that pass are IRIs
  are_iris : (names : List (List ℕ)) → All (All Passes) names → iris.AreIris names
  are_iris [] h = tt
  are_iris (name ∷ names) h = (all_pass name (All-head (All Passes) name names h), are_iris names (All-tail (All Passes) name names h))

  pub loaded_pass : (texts : Inputs) (mode : Mode) (limits : Limits) (loaded : Loaded) → IsLoaded texts mode limits loaded → iris.HaveIris loaded.names
  loaded_pass texts mode limits loaded is =
      let read = is.read.documents_read in
      let left = reading_passes (without_mark texts.left) mode limits.depth _ read.left_names is.documents.left (record { classes = All-nil (All Passes); roles = All-nil (All Passes) }) read.left_read in
      let right = reading_passes (without_mark texts.right) mode limits.depth read.left_names is.documents.names is.documents.right left read.right_read in
      let pass = subst NamesPass (sym is.made.names) right in
      record { classes = are_iris loaded.names.classes.names pass.classes; roles = are_iris loaded.names.roles.names pass.roles }
