-- Files that are told have one case or one first fault, but for reads that fail.
use Rattle.std.proofs.Common.{◌≡◌, ◌⊎◌, ◌<◌, ℕ, List, length, inl, inr, refl, sym, ◌∙◌, ap, subst, arith}
use Rattle.std.specs.Prelude.{Bool, Option, Some, IfSome}
use Rattle.text_names.specs.declared.limits.Limits.{Limits}
use Rattle.io_edge.specs.Outside.{Files, FolderSeen, IsLonger}
use Rattle.io_edge.specs.declared.outside.Role.{Role}
use Rattle.io_edge.specs.declared.outside.Role.TheVariants as role
use Rattle.ofn_axiom.specs.declared.types.Mode.{Mode}
use Rattle.case_load.specs.Loads.{Inputs, IsLoaded, SayTheSame}
use Rattle.case_load.specs.Faults.{IsFirstLoadFault}
use Rattle.case_load.specs.Folders.{IsFile, IsWhole}
use Rattle.case_load.specs.declared.texts.Loaded.{Loaded}
use Rattle.case_load.specs.declared.fault.LoadFault.{LoadFault}
use Rattle.case_load.specs.declared.fault.LoadFault.TheVariants as load
use Rattle.case_load.specs.declared.fault.LimitKind.TheVariants as limit
use Rattle.command_words.specs.declared.types.FileNames.{FileNames}
use Rattle.command_words.specs.declared.types.CheckWords.{CheckWords}
use Rattle.command_words.specs.declared.types.CheckWords.TheVariants as check
use Rattle.check_run.specs.declared.reading.CheckTexts.{CheckTexts}
use Rattle.check_run.specs.Files.{inputs_of, mode_of, AreRunTexts, AreRefusalTexts, AreTextsFor, HaveFault, IsFirstFaultFor, IsHeld, IsRead, IsTooLongFor}

-- what is known of texts: they have one case or one first fault
pub record OneAnswer : Type 0 where
  pub never_both : (texts : Inputs) (mode : Mode) (limits : Limits) (loaded : Loaded) (fault : LoadFault)
      → IsLoaded texts mode limits loaded → IsFirstLoadFault texts mode limits fault → ⊥
  pub one_case : (texts : Inputs) (mode : Mode) (limits : Limits) (one other : Loaded)
      → IsLoaded texts mode limits one → IsLoaded texts mode limits other → SayTheSame one other
  pub one_fault : (texts : Inputs) (mode : Mode) (limits : Limits) (one other : LoadFault)
      → IsFirstLoadFault texts mode limits one → IsFirstLoadFault texts mode limits other → one ≡ other

-- the fault is not that of a read
abbrev pub IsNoRead : LoadFault → Type 0
IsNoRead (load.ReadFault file) = ⊥
IsNoRead _ = Unit {0}

-- what holds of files that are told
use_told : (o : Option Files) (P : Files → Type 0) (files : Files) → o ≡ Some files → IfSome o P → P files
use_told o P files e h = subst (λ (q : Option Files). IfSome q P) e h

-- the texts of a check, one by one
abbrev texts_of : (left right map out evidence : List ℕ) → CheckTexts
texts_of left right map out evidence =
    record { left = left; right = right; map = map; out = out; evidence = evidence }

-- texts are the same if each is
same_texts : (one other : CheckTexts) → one.left ≡ other.left → one.right ≡ other.right → one.map ≡ other.map
    → one.out ≡ other.out → one.evidence ≡ other.evidence → one ≡ other
same_texts one other l r m o e =
    ap (λ (t : List ℕ). texts_of t one.right one.map one.out one.evidence) l
    ∙ ap (λ (t : List ℕ). texts_of other.left t one.map one.out one.evidence) r
    ∙ ap (λ (t : List ℕ). texts_of other.left other.right t one.out one.evidence) m
    ∙ ap (λ (t : List ℕ). texts_of other.left other.right other.map t one.evidence) o
    ∙ ap (λ (t : List ℕ). texts_of other.left other.right other.map other.out t) e

module _ (folder : FolderSeen) (files : Files) (told : folder.files ≡ Some files) where
  -- a file has one text
  one_held : (name one other : List ℕ) → IsHeld folder name one → IsHeld folder name other → one ≡ other
  one_held name one other h k =
      let a : files name ≡ Some one = use_told folder.files (λ f. f name ≡ Some one) files told h in
      let b : files name ≡ Some other = use_told folder.files (λ f. f name ≡ Some other) files told k in
      let both : Some one ≡ Some other = sym a ∙ b in cc

  module _ (most : ℕ) where
    -- the five files have one text each
    one_run : (names : FileNames) (one other : CheckTexts) → AreRunTexts folder names most one → AreRunTexts folder names most other → one ≡ other
    one_run names one other h k = same_texts one other
        (one_held names.left one.left other.left h.files.left.1 k.files.left.1)
        (one_held names.right one.right other.right h.files.right.1 k.files.right.1)
        (one_held names.map one.map other.map h.files.map.1 k.files.map.1)
        (one_held names.out one.out other.out h.out k.out)
        (one_held names.evidence one.evidence other.evidence h.evidence k.evidence)

    -- and so have the three files of a refusal
    one_refusal : (left right evidence : List ℕ) (one other : CheckTexts) → AreRefusalTexts folder left right evidence most one
        → AreRefusalTexts folder left right evidence most other → one ≡ other
    one_refusal left right evidence one other h k = same_texts one other
        (one_held left one.left other.left h.left_text.1 k.left_text.1)
        (one_held right one.right other.right h.right_text.1 k.right_text.1)
        (h.no_rows ∙ sym k.no_rows)
        (h.no_out ∙ sym k.no_out)
        (one_held evidence one.evidence other.evidence h.evidence_text k.evidence_text)

    -- the files of a command have one text each
    pub one_texts : (command : CheckWords) (one other : CheckTexts) → AreTextsFor folder command most one → AreTextsFor folder command most other → one ≡ other
    one_texts (check.Repair el_part names) one other h k = one_run names one other h k
    one_texts (check.Refusal el_part left right evidence) one other h k = one_refusal left right evidence one other h k

    -- a file that is read is not too long
    not_longer : (name bytes : List ℕ) → IsFile folder name most bytes → IfSome folder.files (λ f. IsLonger (f name) most) → ⊥
    not_longer name bytes h long =
        let is : files name ≡ Some bytes = use_told folder.files (λ f. f name ≡ Some bytes) files told h.1 in
        let longer : most < length bytes = subst (λ (o : Option (List ℕ)). IsLonger o most) is (use_told folder.files (λ f. IsLonger (f name) most) files told long) in
        let short = h.0 in absurd (omega arith)

    -- files that are read are not too long
    not_too_long : (command : CheckWords) (texts : CheckTexts) (file : Role) → AreTextsFor folder command most texts → IsTooLongFor folder command most file → ⊥
    not_too_long (check.Repair el_part names) texts role.Left h long = not_longer names.left texts.left h.files.left long.1
    not_too_long (check.Repair el_part names) texts role.Right h long = not_longer names.right texts.right h.files.right long.1
    not_too_long (check.Repair el_part names) texts role.Map h long = not_longer names.map texts.map h.files.map long.1
    not_too_long (check.Repair el_part names) texts role.Out h long = absurd long.1
    not_too_long (check.Repair el_part names) texts role.Evidence h long = absurd long.1
    not_too_long (check.Refusal el_part left right evidence) texts role.Left h long = not_longer left texts.left h.left_text long.1
    not_too_long (check.Refusal el_part left right evidence) texts role.Right h long = not_longer right texts.right h.right_text long.1
    not_too_long (check.Refusal el_part left right evidence) texts role.Map h long = absurd long.0
    not_too_long (check.Refusal el_part left right evidence) texts role.Out h long = absurd long.1
    not_too_long (check.Refusal el_part left right evidence) texts role.Evidence h long = absurd long.1

    -- a file that is read is not too long, whatever its bytes
    not_whole : (name : List ℕ) → IsWhole folder name most → IfSome folder.files (λ f. IsLonger (f name) most) → ⊥
    not_whole name h long = not_longer name h.0 h.1 long

    -- one file of a repair is the first that is too long
    one_long_run : (el_part : Bool) (names : FileNames) (one other : Role) → IsTooLongFor folder (check.Repair el_part names) most one
        → IsTooLongFor folder (check.Repair el_part names) most other → one ≡ other
    one_long_run el_part names role.Left role.Left h k = refl
    one_long_run el_part names role.Right role.Right h k = refl
    one_long_run el_part names role.Map role.Map h k = refl
    one_long_run el_part names role.Left role.Right h k = absurd (not_whole names.left k.0 h.1)
    one_long_run el_part names role.Right role.Left h k = absurd (not_whole names.left h.0 k.1)
    one_long_run el_part names role.Left role.Map h k = absurd (not_whole names.left k.0.0 h.1)
    one_long_run el_part names role.Map role.Left h k = absurd (not_whole names.left h.0.0 k.1)
    one_long_run el_part names role.Right role.Map h k = absurd (not_whole names.right k.0.1 h.1)
    one_long_run el_part names role.Map role.Right h k = absurd (not_whole names.right h.0.1 k.1)
    one_long_run el_part names role.Out other h k = absurd h.1
    one_long_run el_part names role.Evidence other h k = absurd h.1
    one_long_run el_part names one role.Out h k = absurd k.1
    one_long_run el_part names one role.Evidence h k = absurd k.1

    -- and of a refusal
    one_long_refusal : (el_part : Bool) (left right evidence : List ℕ) (one other : Role) → IsTooLongFor folder (check.Refusal el_part left right evidence) most one
        → IsTooLongFor folder (check.Refusal el_part left right evidence) most other → one ≡ other
    one_long_refusal el_part left right evidence role.Left role.Left h k = refl
    one_long_refusal el_part left right evidence role.Right role.Right h k = refl
    one_long_refusal el_part left right evidence role.Left role.Right h k = absurd (not_whole left k.0 h.1)
    one_long_refusal el_part left right evidence role.Right role.Left h k = absurd (not_whole left h.0 k.1)
    one_long_refusal el_part left right evidence role.Map other h k = absurd h.0
    one_long_refusal el_part left right evidence role.Out other h k = absurd h.1
    one_long_refusal el_part left right evidence role.Evidence other h k = absurd h.1
    one_long_refusal el_part left right evidence one role.Map h k = absurd k.0
    one_long_refusal el_part left right evidence one role.Out h k = absurd k.1
    one_long_refusal el_part left right evidence one role.Evidence h k = absurd k.1

    one_long : (command : CheckWords) (one other : Role) → IsTooLongFor folder command most one → IsTooLongFor folder command most other → one ≡ other
    one_long (check.Repair el_part names) one other h k = one_long_run el_part names one other h k
    one_long (check.Refusal el_part left right evidence) one other h k = one_long_refusal el_part left right evidence one other h k

-- a first fault that is not that of a read is that of a file that is too long, or of the texts
abbrev Split : FolderSeen → CheckWords → Limits → LoadFault → Type 0
Split folder command limits fault =
    ((file : Role) × (fault ≡ load.Limit (limit.Bytes file)) × IsTooLongFor folder command limits.file_bytes file)
    ⊎ HaveFault folder command limits fault

split : (old new : FolderSeen) (command : CheckWords) (limits : Limits) (fault : LoadFault)
    → IsNoRead fault → IsFirstFaultFor old new command limits fault → Split old command limits fault
split old new command limits (load.Limit (limit.Bytes file)) n h = inl (file, refl, h)
split old new command limits (load.Limit (limit.Depth side)) n h = inr h
split old new command limits (load.Limit (limit.Classes side)) n h = inr h
split old new command limits (load.Limit (limit.Properties side)) n h = inr h
split old new command limits (load.Limit limit.Rows) n h = inr h
split old new command limits (load.Limit limit.Nodes) n h = inr h
split old new command limits (load.Limit limit.Roles) n h = inr h
split old new command limits (load.ReadFault file) n h = absurd n
split old new command limits (load.Syntax side place kind) n h = inr h
split old new command limits (load.Profile side place head) n h = inr h
split old new command limits (load.Table fault) n h = inr h
split old new command limits load.OutOfMemory n h = inr h

module _ (laws : OneAnswer) (old new : FolderSeen) (files : Files) (told : old.files ≡ Some files) (command : CheckWords) (limits : Limits) where
  -- two readings have the same texts
  pub same_reading : (one other : CheckTexts) (case case' : Loaded) → IsRead old command limits one case → IsRead old command limits other case' → one ≡ other
  same_reading one other case case' h k = one_texts old files told limits.file_bytes command one other h.files k.files

  -- and the same case
  pub same_case : (one other : CheckTexts) (case case' : Loaded) → IsRead old command limits one case → IsRead old command limits other case' → SayTheSame case case'
  same_case one other case case' h k =
      let same = same_reading one other case case' h k in
      laws.one_case (inputs_of other) (mode_of command) limits case case'
      (subst (λ (t : CheckTexts). IsLoaded (inputs_of t) (mode_of command) limits case) same h.case) k.case

  -- files that make a case have no fault
  pub case_or_fault : (texts : CheckTexts) (loaded : Loaded) (fault : LoadFault) → IsRead old command limits texts loaded
      → IsNoRead fault → IsFirstFaultFor old new command limits fault → ⊥
  case_or_fault texts loaded fault r n h = by (split old new command limits fault n h)
    where
      by : Split old command limits fault → ⊥
      by (inl long) = not_too_long old files told limits.file_bytes command texts long.0 r.files long.2
      by (inr k) =
          let same = one_texts old files told limits.file_bytes command texts k.texts r.files k.files in
          laws.never_both (inputs_of k.texts) (mode_of command) limits loaded fault
          (subst (λ (t : CheckTexts). IsLoaded (inputs_of t) (mode_of command) limits loaded) same r.case) k.of_texts

  -- two faults are the same
  pub one_check_fault : (one other : LoadFault) → IsNoRead one → IsNoRead other
      → IsFirstFaultFor old new command limits one → IsFirstFaultFor old new command limits other → one ≡ other
  one_check_fault one other n m h k = by (split old new command limits one n h) (split old new command limits other m k)
    where
      by : Split old command limits one → Split old command limits other → one ≡ other
      by (inl a) (inl b) =
          a.1 ∙ ap {B = LoadFault} (λ (file : Role). load.Limit (limit.Bytes file)) (one_long old files told limits.file_bytes command a.0 b.0 a.2 b.2) ∙ sym b.1
      by (inl a) (inr b) = absurd (not_too_long old files told limits.file_bytes command b.texts a.0 b.files a.2)
      by (inr a) (inl b) = absurd (not_too_long old files told limits.file_bytes command a.texts b.0 a.files b.2)
      by (inr a) (inr b) =
          let same = one_texts old files told limits.file_bytes command a.texts b.texts a.files b.files in
          laws.one_fault (inputs_of b.texts) (mode_of command) limits one other
          (subst (λ (t : CheckTexts). IsFirstLoadFault (inputs_of t) (mode_of command) limits one) same a.of_texts) b.of_texts
