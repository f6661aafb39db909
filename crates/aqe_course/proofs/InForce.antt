-- The settings of a run and of its queries.
use Rattle.std.proofs.Common.{◌≡◌, List, [], refl, sym, ap, subst, lit≤, rules}
use Rattle.std.specs.Prelude.{All}
use Rattle.std.proofs.lemmas.List.Elements.{All-nil, All-cons, All-append, All-weaker}
use Rattle.aqe_settings.specs.declared.entry.Value.{Value}
use Rattle.aqe_settings.specs.declared.key.SettingKey.TheVariants as key
use Rattle.aqe_settings.specs.Ranges.{InRange}
use Rattle.aqe_settings.specs.Values.{default_values}
use Rattle.aqe_store.specs.Files.{Entries}
use Rattle.aqe_trees.specs.declared.statement.Stmt.{Stmt}
use Rattle.aqe_trees.specs.declared.statement.Stmt.TheVariants as statement
use Rattle.aqe_course.specs.Course.{IsCarriedOut, Query, Runs, State}
use Rattle.aqe_course.specs.Course.Runs.{none, more}
use Rattle.aqe_course.specs.Laws.{AreInRange, QueriesHaveTheSettingsInForce, RunsKeepRanges}

-- each default lies in its range
defaults_fit : InRange default_values
defaults_fit key.Enabled = tt
defaults_fit key.ShufflePartitions = (lit≤ tt, lit≤ tt)
defaults_fit key.Advisory = (lit≤ tt, lit≤ tt)
defaults_fit key.Coalesce = tt
defaults_fit key.ParallelismFirst = tt
defaults_fit key.MinPartition = (lit≤ tt, lit≤ tt)
defaults_fit key.InitialPartitions = refl
defaults_fit key.Skew = tt
defaults_fit key.SkewFactor = lit≤ tt
defaults_fit key.SkewThreshold = (lit≤ tt, lit≤ tt)
defaults_fit key.LocalReads = tt
defaults_fit key.LocalMap = (lit≤ tt, lit≤ tt)
defaults_fit key.FirstThreshold = (search rules, search rules)
defaults_fit key.AdaptiveThreshold = refl
defaults_fit key.Ratio = lit≤ tt
defaults_fit key.Parallelism = (lit≤ tt, lit≤ tt)
defaults_fit key.MaxFailures = (lit≤ tt, lit≤ tt)
defaults_fit key.MaxAttempts = (lit≤ tt, lit≤ tt)

abbrev Has : List Value → Query → Type 0
Has settings query = query.settings ≡ settings

-- the settings of a query are those in force
pub in_force : QueriesHaveTheSettingsInForce
in_force files now next (statement.CreateTable form) answered (x, e, y) = subst (All (Has now.settings)) (sym y) (All-nil (Has now.settings))
in_force files now next (statement.Set form) answered x = absurd x
in_force files now next (statement.Query tree) answered x =
    subst (All (Has now.settings)) (sym x.is) (All-cons (Has now.settings) _ [] refl (All-nil (Has now.settings)))

-- no statement that is carried out changes them
stays : (files : Entries) (now next : State) (one : Stmt) (answered : List Query) → IsCarriedOut files now one next answered → next.settings ≡ now.settings
stays files now next (statement.CreateTable form) answered (x, e, y) = ap (λ (s : State). s.settings) e
stays files now next (statement.Set form) answered x = absurd x
stays files now next (statement.Query tree) answered x = x.in_force

abbrev Fits : Query → Type 0
Fits query = InRange query.settings

fit_all : (settings : List Value) (queries : List Query) → InRange settings → All (Has settings) queries → All Fits queries
fit_all settings queries h all = All-weaker (Has settings) Fits (λ query e. subst InRange (sym e) h) queries all

keeps : (files : Entries) (from now : State) (script left : List Stmt) (queries : List Query) → Runs files from script queries now left → InRange from.settings → AreInRange now queries
keeps files _ _ _ _ _ (none now left) h = (h, All-nil Fits)
keeps files _ now _ left _ (more from after _ one rest _ answered later step runs) h =
    let behind : AreInRange now later = keeps files after now rest left later runs (subst InRange (sym (stays files from after one answered step)) h) in
    (behind.0, All-append Fits answered later (fit_all from.settings answered h (in_force files from after one answered step)) behind.1)

pub all_keep_ranges : RunsKeepRanges
all_keep_ranges files script left queries now h = keeps files _ now script left queries h defaults_fit
