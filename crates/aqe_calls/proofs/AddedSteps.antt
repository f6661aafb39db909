-- Calls that are added, one after another.
use Rattle.std.proofs.Common.{◌≡◌, ◌≤◌, ◌<◌, ◌+◌, ℕ, suc, Bool, true, false, cond, List, [], ◌∷◌, ◌++◌, map, length, drop, get_or, refl, ap, sym, subst, ◌∙◌, ◌||◌, Option, Some, None, Result, Ok, Err, add-one, drop-cons, arith}
use Rattle.std.specs.Prelude.{flat_map, slice_index_or, OnOk}
use Rattle.std.specs.List.{list_any}
use Rattle.std.proofs.lemmas.List.{drop_all, map-append}
use Rattle.aqe_logical.specs.declared.plan.AggFun.{AggFun}
use Rattle.aqe_trees.specs.declared.expression.OrTree.{OrTree}
use Rattle.aqe_rules.specs.Expressions.{read}
use Rattle.aqe_rules.specs.Readings.{Place, Call, same_call, call_made}
use Rattle.aqe_typing.specs.declared.calls.Call as typing
use Rattle.aqe_typing.specs.Calls.{call_seen, calls_seen, is_call}
use Rattle.aqe_calls.specs.Added.{with_call, with_calls, seen_if_any, Added}
use Rattle.aqe_calls.specs.Calls.{call_of_arguments}

pub with_append : (a xs ys : List Call) → with_calls a (xs ++ ys) ≡ with_calls (with_calls a xs) ys
with_append a [] ys = refl
with_append a (x ∷ xs) ys = with_append (with_call a x) xs ys

-- one call
any_seen : (call : typing.Call) (calls : List typing.Call) → list_any (λ (o : Call). same_call o.call call.call) (calls_seen calls) ≡ list_any (is_call call) calls
any_seen call [] = refl
any_seen call (c ∷ cs) = ap (λ (b : Bool). is_call call c || b) (any_seen call cs)

pub already_there : (call : typing.Call) (calls : List typing.Call) → list_any (is_call call) calls ≡ true → Added calls calls (call_seen call ∷ [])
already_there call calls h = rw (any_seen call calls, h) refl

pub added_last : (call : typing.Call) (calls now : List typing.Call) → list_any (is_call call) calls ≡ false → now ≡ calls ++ call ∷ [] → Added calls now (call_seen call ∷ [])
added_last call calls now h e = rw (any_seen call calls, h, e) (map-append call_seen calls (call ∷ []))

pub same_added : (call : typing.Call) (other : Call) (calls now : List typing.Call) → call_seen call ≡ other → Added calls now (call_seen call ∷ []) → Added calls now (other ∷ [])
same_added call other calls now e h = subst (λ (c : Call). Added calls now (c ∷ [])) e h

pub ruleset add_steps = (already_there, added_last)

pub ruleset count_steps = (same_added)

-- arguments
pub no_sole_argument : (fun : AggFun) (arguments : List OrTree) (p : Place) (calls : List typing.Call) → (length arguments ≡ 1 → ⊥) → Added calls calls (call_of_arguments fun arguments p)
no_sole_argument fun [] p calls h = refl
no_sole_argument fun (a ∷ []) p calls h = absurd (h refl)
no_sole_argument fun (a ∷ b ∷ more) p calls h = refl

pub sole_argument : (fun : AggFun) (arguments : List OrTree) (p : Place) (a : OrTree) (call : Option typing.Call) (calls now : List typing.Call) → length arguments ≡ 1 → a ≡ slice_index_or arguments 0 a →
    seen_if_any call ≡ call_made fun (read a p).value → Added calls now (seen_if_any call) → Added calls now (call_of_arguments fun arguments p)
sole_argument fun [] p a call calls now h is e k = absurd (omega (arith, h))
sole_argument fun (b ∷ []) p a call calls now h is e k =
    subst (λ (cs : List Call). Added calls now cs) (e ∙ ap (λ (t : OrTree). call_made fun (read t p).value) is) k
sole_argument fun (b ∷ c ∷ more) p a call calls now h is e k = absurd (omega (arith, h))

pub ruleset argument_steps = (no_sole_argument, sole_argument)

-- parts of a tree, one after another
pub then_added : (a b c : List typing.Call) (xs ys whole : List Call) → whole ≡ xs ++ ys → Added a b xs → Added b c ys → Added a c whole
then_added a b c xs ys whole e h k =
    k ∙ ap (λ (z : List Call). with_calls z ys) h ∙ sym (with_append (calls_seen a) xs ys) ∙ ap (with_calls (calls_seen a)) (sym e)

pub same_calls : (a b : List typing.Call) (xs whole : List Call) → whole ≡ xs → Added a b xs → Added a b whole
same_calls a b xs whole e h = h ∙ ap (with_calls (calls_seen a)) (sym e)

-- what a loop keeps: with the calls that are left, those that are there now make the whole
abbrev pub Left : List typing.Call → List typing.Call → List Call → List Call → Type 0
Left start now more whole = with_calls (calls_seen now) more ≡ with_calls (calls_seen start) whole

pub begun : (start now : List typing.Call) (first more whole : List Call) → whole ≡ first ++ more → Added start now first → Left start now more whole
begun start now first more whole e h =
    ap (λ (z : List Call). with_calls z more) h ∙ sym (with_append (calls_seen start) first more) ∙ ap (with_calls (calls_seen start)) (sym e)

from_next : {X : Type 0} (xs : List X) (i : ℕ) (x : X) → i < length xs → x ≡ get_or xs i x → drop i xs ≡ x ∷ drop (i + 1) xs
from_next xs i x below e = rw (add-one, drop-cons xs i x) (ap (λ (y : _). y ∷ drop (suc i) xs) (sym e))

module _ {X : Type 0} (f : X → List Call) where
  pub turned : (xs : List X) (i : ℕ) (x : X) (start now next : List typing.Call) (whole : List Call) → i < length xs → x ≡ get_or xs i x →
      Left start now (flat_map f (drop i xs)) whole → Added now next (f x) → Left start next (flat_map f (drop (i + 1) xs)) whole
  turned xs i x start now next whole below e left h =
      let more = flat_map f (drop (i + 1) xs) in
      let there : with_calls (calls_seen now) (f x ++ more) ≡ with_calls (calls_seen start) whole = subst (λ (ys : List X). with_calls (calls_seen now) (flat_map f ys) ≡ with_calls (calls_seen start) whole) (from_next xs i x below e) left in
      ap (λ (z : List Call). with_calls z more) h ∙ sym (with_append (calls_seen now) (f x) more) ∙ there

  pub ended : (xs : List X) (i : ℕ) (start now : List typing.Call) (whole : List Call) → length xs ≤ i → Left start now (flat_map f (drop i xs)) whole → Added start now whole
  ended xs i start now whole h left = subst (λ (ys : List X). with_calls (calls_seen now) (flat_map f ys) ≡ with_calls (calls_seen start) whole) (drop_all i xs h) left

-- what is said of a success
pub still : {T E : Type 0} {A B : Type 0} (r : Result T E) → (A → B) → OnOk r A → OnOk r B
still (Ok t) f h = f h
still (Err e) f h = h
