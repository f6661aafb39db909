-- A loop over the parts of a chain: what is read so far, for each way to go on.
use Rattle.std.proofs.Common.{ℕ, List, [], ◌∷◌, ◌++◌, ◌≡◌, ◌<◌, length, refl, sym, subst, arith, Result, Err}
use Rattle.std.specs.Prelude.{IfErr}
use Rattle.std.proofs.lemmas.List.{append-nil}
use Rattle.std.proofs.Math.Seq.{append_snoc}
use Rattle.aqe_trees.specs.declared.terminal.Key.TheVariants as k
use Rattle.aqe_trees.specs.declared.terminal.Terminal.{Terminal}
use Rattle.aqe_trees.specs.declared.terminal.Terminal.TheVariants.{Fixed}
use Rattle.aqe_trees.specs.Follow.{Stops}
use Rattle.aqe_trees.specs.Lists.{Commas, no_comma, comma, Listed, listed}
use Rattle.aqe_reader.specs.Reading.{Read, Refuses}

pub moved : {T : Type 0} (Is : T → List Terminal → List Terminal → Type 0) {t : T} {a b us : List Terminal} → a ≡ b → Is t b us → Is t a us
moved Is {t = t} {us = us} e d = subst (λ (x : List Terminal). Is t x us) (sym e) d

pub if_err_of : {A E : Type 0} (Q : E → Type 0) {r : Result A E} {d : E} → IfErr r Q → r ≡ Err d → Q d
if_err_of {A = A} {E = E} Q m h = subst (λ (r : Result A E). IfErr r Q) h m

-- ts begins with the whole that the further parts make, whichever they are
pub record Chain {T X : Type 0} (Is : T → List Terminal → List Terminal → Type 0) (More : List X → List Terminal → List Terminal → Type 0)
    (level : ℕ) (whole : List X → T) (ts rest : List Terminal) : Type 0 where
  pub more : (ys : List X) (us : List Terminal) → More ys rest us → Is (whole ys) ts us
  pub back : (t : T) (us : List Terminal) → Is t ts us → Stops level us → (ys : List X) × (t ≡ whole ys) × More ys rest us
  pub shorter : length rest < length ts

-- one part more
pub record Step {X : Type 0} (More : List X → List Terminal → List Terminal → Type 0) (level : ℕ) (x : X) (rest left : List Terminal) : Type 0 where
  pub cons : (ys : List X) (us : List Terminal) → More ys left us → More (x ∷ ys) rest us
  pub uncons : (zs : List X) (us : List Terminal) → More zs rest us → Stops level us → (ys : List X) × (zs ≡ x ∷ ys) × More ys left us
  pub less : length left < length rest

-- no part more
pub record Ends {X : Type 0} (More : List X → List Terminal → List Terminal → Type 0) (level : ℕ) (rest : List Terminal) : Type 0 where
  pub here : More [] rest rest
  pub only : (ys : List X) (us : List Terminal) → More ys rest us → Stops level us → (ys ≡ []) × (us ≡ rest)

-- a part that begins and has no tree
abbrev pub Stuck : {X : Type 0} → (List X → List Terminal → List Terminal → Type 0) → ℕ → List Terminal → Type 0
Stuck {X = X} More level rest = (ys : List X) (us : List Terminal) → More ys rest us → Stops level us → ⊥

pub chain_step : {T X : Type 0} {Is : T → List Terminal → List Terminal → Type 0} {More : List X → List Terminal → List Terminal → Type 0}
    {level : ℕ} {whole next : List X → T} {ts rest left : List Terminal} {x : X} →
    Chain Is More level whole ts rest → Step More level x rest left → ((ys : List X) → next ys ≡ whole (x ∷ ys)) →
    Chain Is More level next ts left
chain_step {T = T} {Is = Is} {whole = whole} {ts = ts} {x = x} c s e = record {
  more = λ ys us d. subst (λ (t : T). Is t ts us) (sym (e ys)) (c.more (x ∷ ys) us (s.cons ys us d));
  back = λ t us d z.
      let b = c.back t us d z in
      let u = s.uncons b.0 us b.2 z in
      let q = e u.0 in
      (u.0, cc, u.2);
  shorter = let a = s.less in let b = c.shorter in omega arith;
}

pub chain_done : {T X : Type 0} {Is : T → List Terminal → List Terminal → Type 0} {More : List X → List Terminal → List Terminal → Type 0}
    {level : ℕ} {whole : List X → T} {ts rest : List Terminal} {t : T} →
    Chain Is More level whole ts rest → Ends More level rest → t ≡ whole [] → Read Is level ts t rest
chain_done {T = T} {Is = Is} {ts = ts} {rest = rest} c n e = record {
  found = subst (λ (x : T). Is x ts rest) (sym e) (c.more [] rest n.here);
  only = λ v ws d z.
      let b = c.back v ws d z in
      let o = n.only b.0 ws b.2 z in
      (cc, cc);
  shorter = c.shorter;
}

pub chain_refused : {T X : Type 0} {Is : T → List Terminal → List Terminal → Type 0} {More : List X → List Terminal → List Terminal → Type 0}
    {level : ℕ} {whole : List X → T} {ts rest : List Terminal} →
    Chain Is More level whole ts rest → Stuck More level rest → Refuses Is level ts
chain_refused c n v us d z = let b = c.back v us d z in n b.0 us b.2 z

-- lists with commas

pub commas_stop : {T : Type 0} {Is : T → List Terminal → List Terminal → Type 0} {xs : List T} {vs us : List Terminal} →
    Commas Is xs vs us → Stops 9 us → Stops 10 vs
commas_stop no_comma s = omega arith
commas_stop (comma d r) s = omega arith

comma_uncons : {T : Type 0} {Is : T → List Terminal → List Terminal → Type 0} {x : T} {zs : List T} {after left us : List Terminal} →
    Read Is 10 after x left → Commas Is zs (Fixed k.Comma ∷ after) us → Stops 9 us → (ys : List T) × (zs ≡ x ∷ ys) × Commas Is ys left us
comma_uncons r no_comma s = absurd (omega arith)
comma_uncons {Is = Is} r (comma {rest = ys} d c) s = let o = r.only _ _ d (commas_stop c s) in (ys, cc, moved (Commas Is) o.1 c)

comma_step : {T : Type 0} {Is : T → List Terminal → List Terminal → Type 0} {x : T} {rest after left : List Terminal} →
    rest ≡ Fixed k.Comma ∷ after → Read Is 10 after x left → Step (Commas Is) 9 x rest left
comma_step {Is = Is} e r = rw e (record {
  cons = λ ys us d. comma r.found d;
  uncons = λ zs us d s. comma_uncons r d s;
  less = let a = r.shorter in omega arith;
})

no_more : {T : Type 0} {Is : T → List Terminal → List Terminal → Type 0} {ys : List T} {rest us : List Terminal} →
    ((vs : List Terminal) → rest ≡ Fixed k.Comma ∷ vs → ⊥) → Commas Is ys rest us → (ys ≡ []) × (us ≡ rest)
no_more n no_comma = (refl, refl)
no_more n (comma d c) = absurd (n _ refl)

comma_ends : {T : Type 0} {Is : T → List Terminal → List Terminal → Type 0} {rest : List Terminal} →
    ((vs : List Terminal) → rest ≡ Fixed k.Comma ∷ vs → ⊥) → Ends (Commas Is) 9 rest
comma_ends n = record { here = no_comma; only = λ ys us d s. no_more n d }

no_item : {T : Type 0} {Is : T → List Terminal → List Terminal → Type 0} {ys : List T} {after us : List Terminal} →
    Refuses Is 10 after → Commas Is ys (Fixed k.Comma ∷ after) us → Stops 9 us → ⊥
no_item n no_comma s = omega arith
no_item n (comma d c) s = n _ _ d (commas_stop c s)

comma_stuck : {T : Type 0} {Is : T → List Terminal → List Terminal → Type 0} {rest after : List Terminal} →
    rest ≡ Fixed k.Comma ∷ after → Refuses Is 10 after → Stuck (Commas Is) 9 rest
comma_stuck {Is = Is} e n = rw e (λ ys us d s. no_item n d s)

-- a list whose first items are read
pub record ListedSoFar {T : Type 0} (Is : T → List Terminal → List Terminal → Type 0) (items : List T) (ts rest : List Terminal) : Type 0 where
  pub chain : Chain (Listed Is) (Commas Is) 9 (λ ys. items ++ ys) ts rest

first_more : {T : Type 0} {Is : T → List Terminal → List Terminal → Type 0} {x : T} {v : List T} {ts rest us : List Terminal} →
    Read Is 10 ts x rest → Listed Is v ts us → Stops 9 us → (ys : List T) × (v ≡ x ∷ ys) × Commas Is ys rest us
first_more {Is = Is} r (listed {rest = ys} d c) s = let o = r.only _ _ d (commas_stop c s) in (ys, cc, moved (Commas Is) o.1 c)

listed_first : {T : Type 0} {Is : T → List Terminal → List Terminal → Type 0} {x : T} {ts rest : List Terminal} →
    Read Is 10 ts x rest → Chain (Listed Is) (Commas Is) 9 (λ ys. x ∷ ys) ts rest
listed_first r = record {
  more = λ ys us d. listed r.found d;
  back = λ t us d s. first_more r d s;
  shorter = r.shorter;
}

pub listed_begin : {T : Type 0} {Is : T → List Terminal → List Terminal → Type 0} {x : T} {items : List T} {ts rest : List Terminal} →
    Read Is 10 ts x rest → items ≡ [] ++ x ∷ [] → ListedSoFar Is items ts rest
listed_begin {Is = Is} {x = x} {ts = ts} {rest = rest} r e = rw e (record { chain = listed_first r })

pub listed_step : {T : Type 0} {Is : T → List Terminal → List Terminal → Type 0} {x : T} {items next : List T} {ts rest after left : List Terminal} →
    ListedSoFar Is items ts rest → rest ≡ Fixed k.Comma ∷ after → Read Is 10 after x left → next ≡ items ++ x ∷ [] → ListedSoFar Is next ts left
listed_step {x = x} {items = items} c e r n = record { chain = chain_step c.chain (comma_step e r) (λ ys. rw n (append_snoc items x ys)) }

pub listed_done : {T : Type 0} {Is : T → List Terminal → List Terminal → Type 0} {items : List T} {ts rest : List Terminal} →
    ListedSoFar Is items ts rest → ((vs : List Terminal) → rest ≡ Fixed k.Comma ∷ vs → ⊥) → Read (Listed Is) 9 ts items rest
listed_done {items = items} c n = chain_done c.chain (comma_ends n) (sym (append-nil items))

pub listed_stuck : {T : Type 0} {Is : T → List Terminal → List Terminal → Type 0} {items : List T} {ts rest after : List Terminal} →
    ListedSoFar Is items ts rest → rest ≡ Fixed k.Comma ∷ after → Refuses Is 10 after → Refuses (Listed Is) 9 ts
listed_stuck c e n = chain_refused c.chain (comma_stuck e n)

none_listed : {T : Type 0} {Is : T → List Terminal → List Terminal → Type 0} {v : List T} {ts us : List Terminal} →
    Refuses Is 10 ts → Listed Is v ts us → Stops 9 us → ⊥
none_listed n (listed d c) s = n _ _ d (commas_stop c s)

pub listed_refused : {T : Type 0} {Is : T → List Terminal → List Terminal → Type 0} {ts : List Terminal} →
    Refuses Is 10 ts → Refuses (Listed Is) 9 ts
listed_refused n v us d s = none_listed n d s
