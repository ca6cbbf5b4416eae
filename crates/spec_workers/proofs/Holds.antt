-- What a seat has seen and told after one hold of the lock, and after several.
use Rattle.std.proofs.Common.{◌≡◌, ◌==◌, ℕ, suc, true, List, [], ◌∷◌, ◌++◌, All, refl, sym, ap, ◌∙◌, subst, arith, eq-eqb}
use Rattle.std.proofs.lemmas.List.{append_assoc, append-nil}
use Rattle.std.proofs.lemmas.List.Elements.{filter-append}
use Rattle.commit_lock.specs.Entries.{IsBeginning, GrowsBy}
use Rattle.accuse_core.specs.declared.journal.Entry.{Entry}
use Rattle.commit_book.specs.Books.{BookView, worker_of}
use Rattle.spec_workers.specs.Books.{own_of, Tells}
use Rattle.spec_workers.specs.Inside.Grown.{IsGrown}

abbrev by : Entry → ℕ
by entry = worker_of entry.event

-- of entries that all carry a number, those with this number are all
own_all : (number : ℕ) (more : List Entry) → All (λ (e : Entry). by e ≡ number) more
    → own_of number more ≡ more
own_all number [] all = refl
own_all number (e ∷ es) all =
    let is : by e ≡ number = all 0 e (omega arith) in
    let same : (by e == number) ≡ true = eq-eqb (by e) number is in
    rw same (ap (λ (l : List Entry). e ∷ l) (own_all number es (λ k d l. all (suc k) d (omega arith))))

-- what begins a beginning begins the whole
pub begins_through : (front middle whole : List Entry) → IsBeginning front middle → IsBeginning middle whole → IsBeginning front whole
begins_through front middle whole a b =
    (a.0 ++ b.0, sym (append_assoc front a.0 b.0) ∙ (ap (λ (l : List Entry). l ++ b.0) a.1 ∙ b.1))

-- a list that has not changed
pub tells_nothing : (number : ℕ) (seen : List Entry) → Tells number seen seen []
tells_nothing number seen = record { seen = ([], append-nil seen); own = sym (append-nil (own_of number seen)) }

-- one after another
pub tells_then : (number : ℕ) (first second third one other : List Entry) → Tells number first second one
    → Tells number second third other → Tells number first third (one ++ other)
tells_then number first second third one other a b = record {
  seen = begins_through first second third a.seen b.seen;
  own = b.own ∙ (ap (λ (l : List Entry). l ++ other) a.own ∙ append_assoc (own_of number first) one other);
}

-- a book that begins with what was seen, with the same own entries, and then has grown
pub held : (number : ℕ) (before after : List Entry) (entered grown : BookView) (more : List Entry)
    → IsBeginning before entered.entries → own_of number entered.entries ≡ own_of number before
    → IsGrown number entered grown more → after ≡ grown.entries → Tells number before after more
held number before after entered grown more begins own is same =
    let all : after ≡ entered.entries ++ more = same ∙ is.entries in record {
      seen = subst (IsBeginning before) (sym all)
          (begins_through before entered.entries (entered.entries ++ more) begins (more, refl));
      own =
          ap (own_of number) all
          ∙ (filter-append (λ (e : Entry). by e == number) entered.entries more
          ∙ (ap (λ (l : List Entry). l ++ own_of number more) own
          ∙ ap (λ (l : List Entry). own_of number before ++ l) (own_all number more is.by_worker)));
    }

-- the same of the seat whose number the worker has, and of the entries that it took
pub grown_at : (number worker : ℕ) (before entered after : List Entry) → worker ≡ number → entered ≡ before
    → GrowsBy by worker before after → GrowsBy by number entered after
grown_at number worker before entered after same is grown =
    subst (λ (n : ℕ). GrowsBy by n entered after) same
    (subst (λ (l : List Entry). GrowsBy by worker l after) (sym is) grown)
