-- Names among columns and aliases, as the code looks for them.
use Rattle.std.proofs.Common.{◌≡◌, ℕ, Bool, true, false, List, [], ◌∷◌, ◌++◌, map, cond, ◌||◌, Some, None, Result, refl, ap, sym, subst, ◌∙◌}
use Rattle.std.specs.Prelude.{filter, flat_map}
use Rattle.std.specs.List.{list_any}
use Rattle.aqe_base.specs.declared.status.AnalysisKind.TheVariants.{NoSuchColumn, Ambiguous}
use Rattle.aqe_trees.specs.declared.expression.OrTree.{OrTree}
use Rattle.aqe_trees.specs.declared.query.ItemTree.{ItemTree}
use Rattle.aqe_trees.specs.declared.query.ItemTree.TheVariants as tree
use Rattle.aqe_rules.specs.declared.fault.AnalysisFault.{AnalysisFault}
use Rattle.aqe_rules.specs.declared.names.Named.{Named}
use Rattle.aqe_rules.specs.declared.typed.Typed.{Typed}
use Rattle.aqe_rules.specs.Outcomes.{Outcome, refused, upon, the_only}
use Rattle.aqe_rules.specs.Readings.{Place, Alias, Call, alike, bears, alias_value, column_or_alias, column_named}
use Rattle.aqe_rules.specs.Expressions.{read}
use Rattle.aqe_rules.specs.Sources.{over}
use Rattle.aqe_rules.specs.Selects.{at, with_aliases, alias_of}
use Rattle.aqe_rules.specs.Faults.{Says, Fails, Tells}
use Rattle.aqe_rules.proofs.Steps.{memory_fails}
use Rattle.aqe_typing.specs.Values.{value_of_or}
use Rattle.aqe_typing.specs.Aliases.{under_aliases}
use Rattle.aqe_typing.proofs.LevelValues.{is_read}

only_meant : (name : List ℕ) (calls : List Call) (all : List Alias) → upon (the_only name all) (λ (a : Alias). a.value calls) ≡ upon (the_only name (map (λ (a : Alias). a.value calls) all)) (λ (o : Outcome Typed). o)
only_meant name calls [] = refl
only_meant name calls (a ∷ []) = refl
only_meant name calls (a ∷ b ∷ all) = refl

only_under : (name : List ℕ) (columns : List Named) (calls : List Call) (trees : List OrTree) →
    upon (the_only name (map (λ (t : OrTree). (read t (at columns calls)).value) trees)) (λ (o : Outcome Typed). o) ≡ upon (the_only name trees) (λ (t : OrTree). (read t (at columns calls)).value)
only_under name columns calls [] = refl
only_under name columns calls (t ∷ []) = refl
only_under name columns calls (t ∷ u ∷ trees) = refl

with_one : (name own : List ℕ) (columns : List Named) (calls : List Call) (value : OrTree) (aliases : List Alias) (trees : List OrTree) (b : Bool) → b ≡ alike own name →
    map (λ (a : Alias). a.value calls) (filter (λ (a : Alias). alike a.name name) aliases) ≡ map (λ (t : OrTree). (read t (at columns calls)).value) trees →
    map (λ (a : Alias). a.value calls) (filter (λ (a : Alias). alike a.name name) (alias_of columns (tree.One value (Some own)) ++ aliases)) ≡
    map (λ (t : OrTree). (read t (at columns calls)).value) (cond b (value ∷ []) [] ++ trees)
with_one name own columns calls value aliases trees true e h = rw (← e) (ap (λ (os : List (Outcome Typed)). (read value (at columns calls)).value ∷ os) h)
with_one name own columns calls value aliases trees false e h = rw (← e) h

same_meanings : (name : List ℕ) (columns : List Named) (calls : List Call) (list : List ItemTree) →
    map (λ (a : Alias). a.value calls) (filter (λ (a : Alias). alike a.name name) (flat_map (alias_of columns) list)) ≡ map (λ (t : OrTree). (read t (at columns calls)).value) (under_aliases name list)
same_meanings name columns calls [] = refl
same_meanings name columns calls (tree.One value (Some own) ∷ list) = with_one name own columns calls value (flat_map (alias_of columns) list) (under_aliases name list) (alike own name) refl (same_meanings name columns calls list)
same_meanings name columns calls (tree.One value None ∷ list) = same_meanings name columns calls list
same_meanings name columns calls (tree.All ∷ list) = same_meanings name columns calls list
same_meanings name columns calls (tree.AllOf own ∷ list) = same_meanings name columns calls list

-- what an alias means, by what stands under it
pub alias_is : (name : List ℕ) (columns : List Named) (calls : List Call) (list : List ItemTree) →
    alias_value name (with_aliases columns list calls) ≡ upon (the_only name (under_aliases name list)) (λ (t : OrTree). (read t (at columns calls)).value)
alias_is name columns calls list =
    only_meant name calls (filter (λ (a : Alias). alike a.name name) (flat_map (alias_of columns) list)) ∙
    ap (λ (os : List (Outcome Typed)). upon (the_only name os) (λ (o : Outcome Typed). o)) (same_meanings name columns calls list) ∙ only_under name columns calls (under_aliases name list)

pub no_alias : (name : List ℕ) (columns : List Named) (calls : List Call) (list : List ItemTree) (f : AnalysisFault) → under_aliases name list ≡ [] → Tells f (refused NoSuchColumn name) → Fails f (alias_value name (with_aliases columns list calls))
no_alias name columns calls list f e t = rw (alias_is name columns calls list, e) t

pub several_aliases : (name : List ℕ) (columns : List Named) (calls : List Call) (list : List ItemTree) (f : AnalysisFault) (a b : OrTree) (more : List OrTree) → under_aliases name list ≡ a ∷ b ∷ more → Tells f (refused Ambiguous name) →
    Fails f (alias_value name (with_aliases columns list calls))
several_aliases name columns calls list f a b more e t = rw (alias_is name columns calls list, e) t

pub one_alias : (name : List ℕ) (columns : List Named) (calls : List Call) (list : List ItemTree) (a : OrTree) (r : Result Typed AnalysisFault) → under_aliases name list ≡ a ∷ [] → Says r (value_of_or a (at columns calls)) →
    Says r (alias_value name (with_aliases columns list calls))
one_alias name columns calls list a r e s =
    let here : Says r (read a (at columns calls)).value = subst (λ (o : Outcome Typed). Says r o) (is_read a (at columns calls)) s in
    rw (alias_is name columns calls list, e) here

-- a name that some column has, and one that none has
module _ {X : Type 0} where
  abbrev pub First : List X → Type 0
  First ys = (y : X) × (more : List X) × (ys ≡ y ∷ more)

  first_by : (b : Bool) (x : X) (ys : List X) (any : Bool) → (any ≡ true → First ys) → (b || any) ≡ true → First (cond b (x ∷ ys) ys)
  first_by true x ys any h k = (x, ys, refl)
  first_by false x ys any h k = h k

  some_pass : (p : X → Bool) (xs : List X) → list_any p xs ≡ true → First (filter p xs)
  some_pass p [] h = absurd (cc h)
  some_pass p (x ∷ xs) h = first_by (p x) x (filter p xs) (list_any p xs) (some_pass p xs) h

  none_by : (b : Bool) (x : X) (ys : List X) (any : Bool) → (any ≡ false → ys ≡ []) → (b || any) ≡ false → cond b (x ∷ ys) ys ≡ []
  none_by true x ys any h k = absurd (cc k)
  none_by false x ys any h k = h k

  none_pass : (p : X → Bool) (xs : List X) → list_any p xs ≡ false → filter p xs ≡ []
  none_pass p [] h = refl
  none_pass p (x ∷ xs) h = none_by (p x) x (filter p xs) (list_any p xs) (none_pass p xs) h

column_is : (name : List ℕ) (p q : Place) (all : List Named) → First all → column_or_alias name p all ≡ column_or_alias name q all
column_is name p q all (c, cs, e) = rw e refl

pub column_first : (name : List ℕ) (columns : List Named) (calls : List Call) (list : List ItemTree) (r : Result Typed AnalysisFault) → list_any (bears name) columns ≡ true → Says r (column_named name (over columns)) →
    Says r (column_named name (with_aliases columns list calls))
column_first name columns calls list r h s =
    subst (λ (o : Outcome Typed). Says r o) (column_is name (over columns) (with_aliases columns list calls) (filter (bears name) columns) (some_pass (bears name) columns h)) s

pub alias_then : (name : List ℕ) (columns : List Named) (calls : List Call) (list : List ItemTree) (r : Result Typed AnalysisFault) → list_any (bears name) columns ≡ false → Says r (alias_value name (with_aliases columns list calls)) →
    Says r (column_named name (with_aliases columns list calls))
alias_then name columns calls list r h s =
    subst (λ (o : Outcome Typed). Says r o) (sym (ap (column_or_alias name (with_aliases columns list calls)) (none_pass (bears name) columns h))) s

-- where there is no alias, a name means the same whatever calls may stand
any_calls : (name : List ℕ) (columns : List Named) (calls : List Call) (all : List Named) → column_or_alias name (over columns) all ≡ column_or_alias name (at columns calls) all
any_calls name columns calls [] = refl
any_calls name columns calls (c ∷ cs) = refl

pub column_alone : (name : List ℕ) (columns : List Named) (calls : List Call) (r : Result Typed AnalysisFault) → Says r (column_named name (over columns)) → Says r (column_named name (at columns calls))
column_alone name columns calls r s = subst (λ (o : Outcome Typed). Says r o) (any_calls name columns calls (filter (bears name) columns)) s

pub ruleset alias_steps = (memory_fails, no_alias, several_aliases, one_alias)

pub ruleset column_steps = (column_alone)
