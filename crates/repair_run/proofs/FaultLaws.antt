-- Files that are told have one case or one first fault, but for reads that fail.
use Rattle.std.proofs.Common.{◌≡◌, ◌⊎◌, ◌<◌, ℕ, List, length, inl, inr, refl, sym, ◌∙◌, ap, subst, arith}
use Rattle.std.specs.Prelude.{Option, Some, IfSome}
use Rattle.text_names.specs.declared.limits.Limits.{Limits}
use Rattle.io_edge.specs.Outside.{Files, FolderSeen, IsLonger}
use Rattle.io_edge.specs.declared.outside.Role.{Role}
use Rattle.io_edge.specs.declared.outside.Role.TheVariants as role
use Rattle.ofn_axiom.specs.declared.types.Mode.{Mode}
use Rattle.case_load.specs.Loads.{Inputs, inputs, IsLoaded, SayTheSame}
use Rattle.case_load.specs.Faults.{IsFirstLoadFault}
use Rattle.case_load.specs.Folders.{AreFiles, IsFile, IsWhole, IsTooLong, IsTextsFault, IsLoadedFrom, IsFirstFileFault}
use Rattle.case_load.specs.declared.texts.Loaded.{Loaded}
use Rattle.case_load.specs.declared.fault.LoadFault.{LoadFault}
use Rattle.case_load.specs.declared.fault.LoadFault.TheVariants as load
use Rattle.case_load.specs.declared.fault.LimitKind.TheVariants as limit

-- what is known of texts: they have one case or one first fault
pub record OneAnswer : Type 0 where
  pub never_both : (texts : Inputs) (mode : Mode) (limits : Limits) (loaded : Loaded) (fault : LoadFault)
      → IsLoaded texts mode limits loaded → IsFirstLoadFault texts mode limits fault → ⊥
  pub one_case : (texts : Inputs) (mode : Mode) (limits : Limits) (one other : Loaded)
      → IsLoaded texts mode limits one → IsLoaded texts mode limits other → SayTheSame one other
  pub one_fault : (texts : Inputs) (mode : Mode) (limits : Limits) (one other : LoadFault)
      → IsFirstLoadFault texts mode limits one → IsFirstLoadFault texts mode limits other → one ≡ other

-- the fault is not that of a read
abbrev pub IsNoRead : LoadFault → Type 0
IsNoRead (load.ReadFault file) = ⊥
IsNoRead _ = Unit {0}

-- what holds of files that are told
pub use_told : (o : Option Files) (P : Files → Type 0) (files : Files) → o ≡ Some files → IfSome o P → P files
use_told o P files e h = subst (λ (q : Option Files). IfSome q P) e h

module _ (folder : FolderSeen) (files : Files) (told : folder.files ≡ Some files) (most : ℕ) where
  -- a file has one text
  one_text : (name one other : List ℕ) → IsFile folder name most one → IsFile folder name most other → one ≡ other
  one_text name one other h k =
      let a : files name ≡ Some one = use_told folder.files (λ f. f name ≡ Some one) files told h.1 in
      let b : files name ≡ Some other = use_told folder.files (λ f. f name ≡ Some other) files told k.1 in
      let both : Some one ≡ Some other = sym a ∙ b in cc

  -- three files have one text each
  pub one_texts : (names one other : Inputs) → AreFiles folder names most one → AreFiles folder names most other → one ≡ other
  one_texts names one other h k =
      let l = one_text names.left one.left other.left h.left k.left in
      let r = one_text names.right one.right other.right h.right k.right in
      let m = one_text names.map one.map other.map h.map k.map in
      ap (λ (t : List ℕ). inputs t one.right one.map) l ∙ ap (λ (t : List ℕ). inputs other.left t one.map) r ∙ ap (inputs other.left other.right) m

  -- a file that is read is not too long
  not_longer : (name bytes : List ℕ) → IsFile folder name most bytes → IfSome folder.files (λ f. IsLonger (f name) most) → ⊥
  not_longer name bytes h long =
      let is : files name ≡ Some bytes = use_told folder.files (λ f. f name ≡ Some bytes) files told h.1 in
      let longer : most < length bytes = subst (λ (o : Option (List ℕ)). IsLonger o most) is (use_told folder.files (λ f. IsLonger (f name) most) files told long) in
      let short = h.0 in absurd (omega arith)

  -- files that are read are not too long
  not_too_long : (names texts : Inputs) (file : Role) → AreFiles folder names most texts → IsTooLong folder names most file → ⊥
  not_too_long names texts role.Left h long = not_longer names.left texts.left h.left long.1
  not_too_long names texts role.Right h long = not_longer names.right texts.right h.right long.1
  not_too_long names texts role.Map h long = not_longer names.map texts.map h.map long.1
  not_too_long names texts role.Out h long = absurd long.0
  not_too_long names texts role.Evidence h long = absurd long.0

  -- a file that is read is not too long, whatever its bytes
  not_whole : (name : List ℕ) → IsWhole folder name most → IfSome folder.files (λ f. IsLonger (f name) most) → ⊥
  not_whole name h long = not_longer name h.0 h.1 long

  -- one file is the first that is too long
  one_long : (names : Inputs) (one other : Role) → IsTooLong folder names most one → IsTooLong folder names most other → one ≡ other
  one_long names role.Left role.Left h k = refl
  one_long names role.Right role.Right h k = refl
  one_long names role.Map role.Map h k = refl
  one_long names role.Left role.Right h k = absurd (not_whole names.left k.0 h.1)
  one_long names role.Right role.Left h k = absurd (not_whole names.left h.0 k.1)
  one_long names role.Left role.Map h k = absurd (not_whole names.left k.0.0 h.1)
  one_long names role.Map role.Left h k = absurd (not_whole names.left h.0.0 k.1)
  one_long names role.Right role.Map h k = absurd (not_whole names.right k.0.1 h.1)
  one_long names role.Map role.Right h k = absurd (not_whole names.right h.0.1 k.1)
  one_long names role.Out other h k = absurd h.0
  one_long names role.Evidence other h k = absurd h.0
  one_long names one role.Out h k = absurd k.0
  one_long names one role.Evidence h k = absurd k.0

-- a first fault that is not that of a read is that of a file that is too long, or of the texts
abbrev Split : FolderSeen → Inputs → Mode → Limits → LoadFault → Type 0
Split folder names mode limits fault =
    ((file : Role) × (fault ≡ load.Limit (limit.Bytes file)) × IsTooLong folder names limits.file_bytes file)
    ⊎ IsTextsFault folder names mode limits fault

split : (old new : FolderSeen) (names : Inputs) (mode : Mode) (limits : Limits) (fault : LoadFault)
    → IsNoRead fault → IsFirstFileFault old new names mode limits fault → Split old names mode limits fault
split old new names mode limits (load.Limit (limit.Bytes file)) n h = inl (file, refl, h)
split old new names mode limits (load.Limit (limit.Depth side)) n h = inr h
split old new names mode limits (load.Limit (limit.Classes side)) n h = inr h
split old new names mode limits (load.Limit (limit.Properties side)) n h = inr h
split old new names mode limits (load.Limit limit.Rows) n h = inr h
split old new names mode limits (load.Limit limit.Nodes) n h = inr h
split old new names mode limits (load.Limit limit.Roles) n h = inr h
split old new names mode limits (load.ReadFault file) n h = absurd n
split old new names mode limits (load.Syntax side place kind) n h = inr h
split old new names mode limits (load.Profile side place head) n h = inr h
split old new names mode limits (load.Table fault) n h = inr h
split old new names mode limits load.OutOfMemory n h = inr h

module _ (laws : OneAnswer) (old new : FolderSeen) (files : Files) (told : old.files ≡ Some files) (names : Inputs) (mode : Mode) (limits : Limits) where
  -- a case and a fault exclude each other
  pub loaded_or_fault : (loaded : Loaded) (fault : LoadFault) → IsLoadedFrom old names mode limits loaded
      → IsNoRead fault → IsFirstFileFault old new names mode limits fault → ⊥
  loaded_or_fault loaded fault l n h = by (split old new names mode limits fault n h)
    where
      by : Split old names mode limits fault → ⊥
      by (inl long) = not_too_long old files told limits.file_bytes names l.texts long.0 l.files long.2
      by (inr k) =
          let same = one_texts old files told limits.file_bytes names l.texts k.texts l.files k.files in
          laws.never_both k.texts mode limits loaded fault (subst (λ (t : Inputs). IsLoaded t mode limits loaded) same l.from_texts) k.of_texts

  -- two cases are the same
  pub one_loaded : (one other : Loaded) → IsLoadedFrom old names mode limits one → IsLoadedFrom old names mode limits other → SayTheSame one other
  one_loaded one other h k =
      let same = one_texts old files told limits.file_bytes names h.texts k.texts h.files k.files in
      laws.one_case k.texts mode limits one other (subst (λ (t : Inputs). IsLoaded t mode limits one) same h.from_texts) k.from_texts

  -- two faults are the same
  pub one_file_fault : (one other : LoadFault) → IsNoRead one → IsNoRead other
      → IsFirstFileFault old new names mode limits one → IsFirstFileFault old new names mode limits other → one ≡ other
  one_file_fault one other n m h k = by (split old new names mode limits one n h) (split old new names mode limits other m k)
    where
      by : Split old names mode limits one → Split old names mode limits other → one ≡ other
      by (inl a) (inl b) =
          a.1 ∙ ap {B = LoadFault} (λ (file : Role). load.Limit (limit.Bytes file)) (one_long old files told limits.file_bytes names a.0 b.0 a.2 b.2) ∙ sym b.1
      by (inl a) (inr b) = absurd (not_too_long old files told limits.file_bytes names b.texts a.0 b.files a.2)
      by (inr a) (inl b) = absurd (not_too_long old files told limits.file_bytes names a.texts b.0 a.files b.2)
      by (inr a) (inr b) =
          let same = one_texts old files told limits.file_bytes names a.texts b.texts a.files b.files in
          laws.one_fault b.texts mode limits one other (subst (λ (t : Inputs). IsFirstLoadFault t mode limits one) same a.of_texts) b.of_texts
