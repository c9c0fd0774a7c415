-- A set or a removal of one attribute changes no other lookup's answer, and a refusal changes no byte.
-- Assumes nothing.
use Prim.Native.Nat.{ℕ}
use mathlib.Core.Bool.{true, false}
use mathlib.Core.Path.{◌≡◌, refl, sym, ◌∙◌, ap}
use mathlib.Core.List.{List, [], ◌∷◌, append-nil}
use borrow.Author.Tests.{ne_eqb}
use Rattle.be.specs.Lists.{keep}
use Rattle.be.proofs.Bools.{by_cases, clash, keep_append}
use Rattle.edition.specs.declared.Edition.{Edition}
use Rattle.edition.specs.Edition.{Sane}
use Rattle.dinode.specs.Core.{attr_fork}
use Rattle.attr_sf.specs.Entry.{Entry, entry, is_key, others}
use Rattle.attr_sf.specs.Fork.{stored}
use Rattle.attr_sf.specs.Calls.{verdict, asked_code, changed, set_bytes, remove_bytes}
use Rattle.attr_sf.specs.Laws.{Alike, UnmovedLaw, RefusalLaw}
use Rattle.attr_sf.proofs.InodeTests.{asked_legal, still_asked}
use Rattle.attr_sf.proofs.OtherEntries.{key_own, key_is}
use Rattle.attr_sf.proofs.LookupLaws.{value_among, code_among, value_by, code_by}
use Rattle.attr_sf.proofs.SetLaw.{set_law}
use Rattle.attr_sf.proofs.RemovalLaw.{removal_law}

-- two names and flags that differ
apart : (name : List ℕ) (flags : ℕ) (m : List ℕ) (h : ℕ) (x : Entry) → is_key name flags (entry h m []) ≡ false → is_key m h x ≡ true → is_key name flags x ≡ false
unfolding is_key
apart name flags m h x d k = let q = key_is m h x k in rw (sym q.0, sym q.1) d

keep_others : (name : List ℕ) (flags : ℕ) (m : List ℕ) (h : ℕ) (xs : List Entry) → is_key name flags (entry h m []) ≡ false
    → keep (is_key m h) (others name flags xs) ≡ keep (is_key m h) xs
unfolding others
keep_others name flags m h [] d = refl
keep_others name flags m h (x ∷ xs) d =
    by_cases (is_key m h x)
    (λ k. rw (apart name flags m h x d k, k) (ap (λ (l : List Entry). x ∷ l) (keep_others name flags m h xs d)))
    (λ k. by_cases (is_key name flags x) (λ q. rw (q, k) (keep_others name flags m h xs d)) (λ q. rw (q, k) (keep_others name flags m h xs d)))

-- the new entry has not the other's name and flags
new_apart : (name : List ℕ) (flags : ℕ) (value m : List ℕ) (h : ℕ) → is_key name flags (entry h m []) ≡ false → is_key m h (entry flags name value) ≡ false
new_apart name flags value m h d =
    by_cases (is_key m h (entry flags name value))
    (λ k. absurd (clash (key_own flags name value) (apart name flags m h (entry flags name value) d k)))
    (λ k. k)

alike : (e : Edition) (b c m : List ℕ) (h : ℕ) → verdict e c ≡ 0 → asked_code e b m h ≡ 0
    → keep (is_key m h) (stored (attr_fork e c)) ≡ keep (is_key m h) (stored (attr_fork e b)) → Alike e b c m h
alike e b c m h t a q =
    let k : asked_code e c m h ≡ 0 = still_asked e c m h t (asked_legal e b m h a) in
    record {
      number = code_by e c m h k ∙ ap code_among q ∙ sym (code_by e b m h a);
      value = value_by e c m h k ∙ ap value_among q ∙ sym (value_by e b m h a);
    }

pub unmoved_law : (e : Edition) → Sane e → UnmovedLaw e
unmoved_law e sane b name flags value m h d a = (
  λ q.
      let s = set_law e sane b name flags value q in
      alike e b (set_bytes e b name flags value) m h s.left.accepted a
      (ap (keep (is_key m h)) s.rest ∙ keep_append (is_key m h) (others name flags (stored (attr_fork e b))) (entry flags name value ∷ [])
      ∙ rw (new_apart name flags value m h d, append-nil) (keep_others name flags m h (stored (attr_fork e b)) d)),
  λ y q.
      let s = removal_law e sane b name flags y q in
      alike e b (remove_bytes e b name flags) m h s.left.accepted a
      (ap (keep (is_key m h)) s.rest ∙ keep_others name flags m h (stored (attr_fork e b)) d),
)

unchanged : (e : Edition) (b : List ℕ) (n : ℕ) (xs : List Entry) → (n ≡ 0 → ⊥) → changed e b n xs ≡ b
unfolding changed
unchanged e b n xs h = rw (ne_eqb n 0 h)

pub refusal_law : (e : Edition) → RefusalLaw e
unfolding set_bytes remove_bytes
refusal_law e b name flags value = (λ h. unchanged e b _ _ h, λ h. unchanged e b _ _ h)
