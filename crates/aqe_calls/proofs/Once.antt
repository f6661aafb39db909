-- Calls that are collected one after another are those of the definition: each once, where it is used first.
use Rattle.std.proofs.Common.{◌≡◌, Bool, true, false, not, cond, List, [], ◌∷◌, ◌++◌, refl, ap, sym, ◌∙◌, ◌||◌, ◌&&◌}
use Rattle.std.specs.Prelude.{filter}
use Rattle.std.specs.List.{list_any}
use Rattle.std.proofs.lemmas.List.{append-nil, append_assoc}
use Rattle.std.proofs.lemmas.List.Folds.{list_any-append}
use Rattle.aqe_logical.specs.declared.plan.AggFun.{AggFun}
use Rattle.aqe_logical.specs.declared.plan.AggFun.TheVariants.{Count, Sum, Min, Max}
use Rattle.aqe_logical.specs.declared.plan.AggCall.{AggCall}
use Rattle.aqe_rules.specs.Equality.{same_expr}
use Rattle.aqe_rules.specs.Readings.{Call, same_fun, same_call}
use Rattle.aqe_rules.specs.Selects.{without, once}
use Rattle.aqe_laws.proofs.Same.{equal, first, second}
use Rattle.aqe_calls.specs.Added.{with_call, with_calls}

differ : false ≡ true → ⊥
differ e = cc

same_functions : (f g : AggFun) → same_fun f g ≡ true → f ≡ g
same_functions Count Count h = refl
same_functions Sum Sum h = refl
same_functions Min Min h = refl
same_functions Max Max h = refl
same_functions Count Sum h = absurd (differ h)
same_functions Count Min h = absurd (differ h)
same_functions Count Max h = absurd (differ h)
same_functions Sum Count h = absurd (differ h)
same_functions Sum Min h = absurd (differ h)
same_functions Sum Max h = absurd (differ h)
same_functions Min Count h = absurd (differ h)
same_functions Min Sum h = absurd (differ h)
same_functions Min Max h = absurd (differ h)
same_functions Max Count h = absurd (differ h)
same_functions Max Sum h = absurd (differ h)
same_functions Max Min h = absurd (differ h)

-- a call equals what an equal call equals
moved : (a b c : AggCall) → same_call a b ≡ true → same_call a c ≡ same_call b c
moved a b c h =
    let functions : a.fun ≡ b.fun = same_functions a.fun b.fun (first (same_fun a.fun b.fun) (same_expr a.arg b.arg) h) in
    let arguments : a.arg ≡ b.arg = equal a.arg b.arg (second (same_fun a.fun b.fun) (same_expr a.arg b.arg) h) in
    λ i. same_fun (functions i) c.fun && same_expr (arguments i) c.arg

abbrev among : List Call → Call → Bool
among calls call = list_any (λ (o : Call). same_call o.call call.call) calls

by_first : (b c rest more : Bool) → b ≡ true → c ≡ b → (c || more) ≡ true
by_first b c rest more h e = rw (e, h) refl

or_true : (b c : Bool) → c ≡ true → (b || c) ≡ true
or_true true c h = refl
or_true false c h = h

among_step : (o x y : Call) (b rest more : Bool) → b ≡ same_call o.call x.call → same_call x.call y.call ≡ true → (b || rest) ≡ true → (rest ≡ true → more ≡ true) → (same_call o.call y.call || more) ≡ true
among_step o x y true rest more e s h next = rw (moved o.call x.call y.call (sym e), s) refl
among_step o x y false rest more e s h next = or_true (same_call o.call y.call) more (next h)

also_among : (x y : Call) (calls : List Call) → same_call x.call y.call ≡ true → among calls x ≡ true → among calls y ≡ true
also_among x y [] s h = absurd (differ h)
also_among x y (o ∷ calls) s h = among_step o x y (same_call o.call x.call) (among calls x) (among calls y) refl s h (also_among x y calls s)

-- those of some calls that are not there
abbrev pub further : List Call → List Call → List Call
further calls more = filter (λ (c : Call). not (among calls c)) more

kept_by : (calls : List Call) (x y : Call) (b : Bool) (left right : List Call) → b ≡ same_call x.call y.call → among calls x ≡ true → further calls left ≡ further calls right →
    further calls (cond (not b) (y ∷ left) left) ≡ further calls (y ∷ right)
kept_by calls x y true left right e h same = rw (also_among x y calls (sym e) h) same
kept_by calls x y false left right e h same = ap (λ (rest : List Call). cond (not (among calls y)) (y ∷ rest) rest) same

-- where a call is there, those that equal it are none of the further ones
none_lost : (calls : List Call) (x : Call) (ys : List Call) → among calls x ≡ true → further calls (without x ys) ≡ further calls ys
none_lost calls x [] h = refl
none_lost calls x (y ∷ ys) h = kept_by calls x y (same_call x.call y.call) (without x ys) ys refl h (none_lost calls x ys h)

-- where it comes to be there, they no longer are
split_by : (b c : Bool) (y : Call) (left right other : List Call) (keep : Bool) → keep ≡ not b → left ≡ right →
    cond (not (b || c)) (y ∷ left) left ≡ cond (not c) (cond keep (y ∷ right) right) right
split_by true true y left right other keep e h = h
split_by true false y left right other keep e h = rw e h
split_by false true y left right other keep e h = h
split_by false false y left right other keep e h = rw e (ap (λ (rest : List Call). y ∷ rest) h)

over_cond : (calls : List Call) (y : Call) (keep : Bool) (ys : List Call) → further calls (cond keep (y ∷ ys) ys) ≡ cond keep (cond (not (among calls y)) (y ∷ further calls ys) (further calls ys)) (further calls ys)
over_cond calls y true ys = refl
over_cond calls y false ys = refl

or_false : (b : Bool) → (b || false) ≡ b
or_false true = refl
or_false false = refl

among_last : (calls : List Call) (x y : Call) → among (calls ++ x ∷ []) y ≡ (among calls y || same_call x.call y.call)
among_last calls x y = list_any-append (λ (o : Call). same_call o.call y.call) calls (x ∷ []) ∙ ap (λ (b : Bool). among calls y || b) (or_false (same_call x.call y.call))

then_further : (calls : List Call) (x : Call) (ys : List Call) → further (calls ++ x ∷ []) ys ≡ further calls (without x ys)
then_further calls x [] = refl
then_further calls x (y ∷ ys) =
    ap (λ (b : Bool). cond (not b) (y ∷ further (calls ++ x ∷ []) ys) (further (calls ++ x ∷ []) ys)) (among_last calls x y) ∙
    split_by (among calls y) (same_call x.call y.call) y (further (calls ++ x ∷ []) ys) (further calls (without x ys)) [] (not (among calls y)) refl (then_further calls x ys) ∙
    sym (over_cond calls y (not (same_call x.call y.call)) (without x ys))

-- what is collected: the calls that are there, and behind them the further ones of the definition
step : (calls : List Call) (x : Call) (xs : List Call) (b : Bool) → b ≡ among calls x →
    ((kept : List Call) → with_calls kept xs ≡ kept ++ further kept (once xs)) →
    with_calls (cond b calls (calls ++ x ∷ [])) xs ≡ calls ++ cond (not b) (x ∷ further calls (without x (once xs))) (further calls (without x (once xs)))
step calls x xs true e all = all calls ∙ ap (λ (more : List Call). calls ++ more) (sym (none_lost calls x (once xs) (sym e)))
step calls x xs false e all =
    all (calls ++ x ∷ []) ∙ append_assoc calls (x ∷ []) (further (calls ++ x ∷ []) (once xs)) ∙
    ap (λ (more : List Call). calls ++ x ∷ more) (then_further calls x (once xs))

collected : (xs calls : List Call) → with_calls calls xs ≡ calls ++ further calls (once xs)
collected [] calls = sym (append-nil calls)
collected (x ∷ xs) calls = step calls x xs (among calls x) refl (collected xs)

all_further : (xs : List Call) → further [] xs ≡ xs
all_further [] = refl
all_further (x ∷ xs) = ap (λ (rest : List Call). x ∷ rest) (all_further xs)

pub collected_once : (xs : List Call) → with_calls [] xs ≡ once xs
collected_once xs = collected xs [] ∙ all_further (once xs)
