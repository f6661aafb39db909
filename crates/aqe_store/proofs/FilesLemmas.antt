-- Facts on the files of a folder, around one more entry.
use Rattle.std.proofs.Common.{◌≡◌, ◌≢◌, ◌↔◌, ◌⊎◌, ◌<◌, ◌+◌, ℕ, List, [], ◌∷◌, ◌++◌, length, get_or, take, Bool, true, false, cond, ◌||◌, Option, Some, None, is_some, MatchOption, MatchBool, Bor, ap, sym, subst, ◌∙◌, arith, inl, inr, refl}
use Rattle.std.specs.List.{Contains, AllPairs, find, list_any}
use Rattle.std.specs.Str.{bytes_eq}
use Rattle.std.specs.Option.{option_map}
use Rattle.std.proofs.lemmas.Bool.{or_cases, or_left, or_right}
use Rattle.std.proofs.lemmas.List.{append_cancel_left, take_more}
use Rattle.std.proofs.lemmas.List.Elements.{Contains-push, Contains-push_cases, Contains-append_left, Contains-get_or}
use Rattle.std.proofs.lemmas.List.Folds.{list_any-append}
use Rattle.std.proofs.lemmas.List.Quantifiers.{all_pairs_push}
use Rattle.std.proofs.lemmas.Slice.Eq.{bytes_eq-Decides}
use Rattle.aqe_store.specs.Files.{Entries, content_of, IsHeld, IsBelow, IsFolder, IsFileOf, IsListing}
use Rattle.aqe_store.specs.Shelf.{AddsName, Gathers, IsGathered}

-- where the path goes on after the folder, it lies below the folder just if a slash follows
pub below-from_slash : (folder path more : List ℕ) (r : Option (Bor (List ℕ))) → path ≡ folder ++ more
    → MatchOption r ((rest : List ℕ) → more ≢ 47 ∷ rest) (λ rest. more ≡ 47 ∷ rest.now)
    → MatchOption r (¬ (IsBelow folder path)) (λ rest. path ≡ folder ++ 47 ∷ rest.now)
below-from_slash folder path more None e h = λ b. h b.0 (append_cancel_left folder _ _ (sym e ∙ b.1))
below-from_slash folder path more (Some rest) e h = e ∙ ap (λ xs. folder ++ xs) h

-- a path has one name in a folder
name_is : (folder : List ℕ) (m n : List ℕ) → folder ++ 47 ∷ m ≡ folder ++ 47 ∷ n → m ≡ n
name_is folder m n e = let f : 47 ∷ m ≡ 47 ∷ n = append_cancel_left folder _ _ e in cc

-- whether an entry has the path
has_path : List ℕ → Entries → Bool
has_path path files = list_any (λ entry. bytes_eq entry.0 path) files

is_some-content_of : (files : Entries) (path : List ℕ) → is_some (content_of files path) ≡ list_any (λ entry. bytes_eq entry.0 path) files
is_some-content_of [] path = refl
is_some-content_of (x ∷ xs) path =
    elim (bytes_eq x.0 path) as (λ v. is_some (option_map (λ entry. entry.1) (cond v (Some x) (find (λ entry. bytes_eq entry.0 path) xs))) ≡ (v || list_any (λ entry. bytes_eq entry.0 path) xs))
    [ true ↦ refl | false ↦ is_some-content_of xs path ]

-- of one more entry
held_more : (files : Entries) (e : List ℕ × List ℕ) (path : List ℕ) → is_some (content_of (files ++ e ∷ []) path) ≡ (is_some (content_of files path) || bytes_eq e.0 path)
held_more files e path =
    let whole = is_some-content_of (files ++ e ∷ []) path in
    let front = is_some-content_of files path in
    let split = list_any-append (λ entry. bytes_eq entry.0 path) files (e ∷ []) in
    grind (arith, whole, front, split)

held-push : (files : Entries) (e : List ℕ × List ℕ) (path : List ℕ) → IsHeld files path → IsHeld (files ++ e ∷ []) path
held-push files e path h = held_more files e path ∙ or_left _ _ h

held-push_new : (files : Entries) (e : List ℕ × List ℕ) (path : List ℕ) → e.0 ≡ path → IsHeld (files ++ e ∷ []) path
held-push_new files e path h = held_more files e path ∙ or_right _ _ ((bytes_eq-Decides e.0 path).1 h)

held-push_cases : (files : Entries) (e : List ℕ × List ℕ) (path : List ℕ) → IsHeld (files ++ e ∷ []) path → IsHeld files path ⊎ (e.0 ≡ path)
held-push_cases files e path h =
    elim (or_cases _ _ (sym (held_more files e path) ∙ h)) [ inl a ↦ inl a | inr b ↦ inr ((bytes_eq-Decides e.0 path).0 b) ]

-- a new entry below the folder, whose name is passed over or added
files_of-added : (files : Entries) (e : List ℕ × List ℕ) (folder name : List ℕ) (names new : List (List ℕ)) → IsListing files folder names
    → e.0 ≡ folder ++ 47 ∷ name → AddsName name names new → (n : List ℕ) → Contains new n ↔ IsFileOf (files ++ e ∷ []) folder n
files_of-added files e folder name names new h p (inl (passed, same)) n =
    let path_is : e.0 ≡ folder ++ 47 ∷ n → name ≡ n = λ q. name_is folder name n (sym p ∙ q) in
    let slash : name ≡ n → Contains name 47 → Contains n 47 = λ q s. let P : List ℕ → Type 0 = λ x. Contains x 47 in subst P q s in
    let held : name ≡ n → Contains names name → Contains names n = λ q s. let P : List ℕ → Type 0 = λ x. Contains names x in subst P q s in
    rw same (
      λ k. let f = (h.files_of n).0 k in (held-push files e _ f.0, f.1),
      λ f. elim (held-push_cases files e _ f.0) [
        | inl k ↦ (h.files_of n).1 (k, f.1)
        | inr q ↦ elim passed [ inl s ↦ absurd (f.1 (slash (path_is q) s)) | inr s ↦ held (path_is q) s ]
      ],
    )
files_of-added files e folder name names new h p (inr (fresh, same)) n =
    let path_is : e.0 ≡ folder ++ 47 ∷ n → name ≡ n = λ q. name_is folder name n (sym p ∙ q) in
    let added : name ≡ n → IsFileOf (files ++ e ∷ []) folder n =
    λ q. let P : List ℕ → Type 0 = λ x. IsFileOf (files ++ e ∷ []) folder x in subst P q (held-push_new files e _ p, λ s. fresh (inl s)) in
    let last : name ≡ n → Contains (names ++ name ∷ []) n = λ q. let P : List ℕ → Type 0 = λ x. Contains (names ++ name ∷ []) x in subst P q (Contains-push names name) in
    rw same (
      λ k. elim (Contains-push_cases names name n k) [
        | inl a ↦ (let f = (h.files_of n).0 a in (held-push files e _ f.0, f.1))
        | inr q ↦ added q
      ],
      λ f. elim (held-push_cases files e _ f.0) [
        | inl k ↦ Contains-append_left names _ n ((h.files_of n).1 (k, f.1))
        | inr q ↦ last (path_is q)
      ],
    )

once-added : (name : List ℕ) (names new : List (List ℕ)) → AllPairs (λ a b. a ≢ b) names → AddsName name names new → AllPairs (λ a b. a ≢ b) new
once-added name names new h (inl (passed, same)) = rw same h
once-added name names new h (inr (fresh, same)) =
    rw same (all_pairs_push (λ a b. a ≢ b) names name h
    (λ k d lt q. let P : List ℕ → Type 0 = λ x. Contains names x in fresh (inr (subst P q (Contains-get_or names k d lt)))))

-- a new entry that does not lie below the folder
files_of-other : (files : Entries) (e : List ℕ × List ℕ) (folder : List ℕ) (names : List (List ℕ)) → IsListing files folder names
    → (¬ (IsBelow folder e.0)) → (n : List ℕ) → Contains names n ↔ IsFileOf (files ++ e ∷ []) folder n
files_of-other files e folder names h outside n = (
  λ k. let f = (h.files_of n).0 k in (held-push files e _ f.0, f.1),
  λ f. elim (held-push_cases files e _ f.0) [ inl k ↦ (h.files_of n).1 (k, f.1) | inr q ↦ absurd (outside (n, q)) ],
)

there-other : (files : Entries) (e : List ℕ × List ℕ) (folder : List ℕ) (b : Bool) → (¬ (IsBelow folder e.0))
    → MatchBool b (IsFolder files folder) (¬ (IsFolder files folder)) → MatchBool b (IsFolder (files ++ e ∷ []) folder) (¬ (IsFolder (files ++ e ∷ []) folder))
there-other files e folder true outside h = (h.0, held-push files e _ h.1)
there-other files e folder false outside h =
    λ f. elim (held-push_cases files e _ f.1) [ inl k ↦ h (f.0, k) | inr q ↦ outside (f.0, q) ]

gathered_below : (files : Entries) (e : List ℕ × List ℕ) (folder : List ℕ) (b : Bool) (names new : List (List ℕ)) → IsGathered files folder b names
    → Gathers folder e.0 true names new → IsGathered (files ++ e ∷ []) folder true new
gathered_below files e folder b names new h (name, p, adds) =
    record { there = (name, held-push_new files e _ p); listing = record { files_of = files_of-added files e folder name names new h.listing p adds; once = once-added name names new h.listing.once adds } }

gathered_other : (files : Entries) (e : List ℕ × List ℕ) (folder : List ℕ) (b : Bool) (names new : List (List ℕ)) → IsGathered files folder b names
    → Gathers folder e.0 false names new → IsGathered (files ++ e ∷ []) folder b new
gathered_other files e folder b names new h (outside, same) =
    rw same (record { there = there-other files e folder b outside h.there; listing = record { files_of = files_of-other files e folder names h.listing outside; once = h.listing.once } })

-- what one more entry of a list adds
pub gathered-more : (files : Entries) (i : ℕ) (e : List ℕ × List ℕ) (folder : List ℕ) (b is_below now : Bool) (names new : List (List ℕ)) → i < length files → e ≡ get_or files i e
    → IsGathered (take i files) folder b names → Gathers folder e.0 is_below names new → now ≡ (is_below || b) → IsGathered (take (i + 1) files) folder now new
gathered-more files i e folder b true now names new lt at h g is =
    rw (take_more files i e lt, ← at, is) (gathered_below (take i files) e folder b names new h g)
gathered-more files i e folder b false now names new lt at h g is =
    rw (take_more files i e lt, ← at, is) (gathered_other (take i files) e folder b names new h g)
