-- The makings of the code, one by one.
use Rattle.std.proofs.Common.{◌≡◌, refl, ap, sym, subst, ◌∙◌, ℕ, List, [], ◌∷◌, ◌++◌, map, length, arith}
use Rattle.std.proofs.lemmas.List.{append_assoc, append-nil}
use Rattle.aqe_making.specs.Makings.{Making}
use Rattle.aqe_replan.specs.declared.making.Making.{Making as MakingData}
use Rattle.aqe_replan.specs.Seen.{seen, all_standing}
use Rattle.aqe_replan.specs.Versions.{ready_of}
use Rattle.aqe_steps.specs.declared.run.Run.{Run}
use Rattle.aqe_steps.specs.Runs.{IsSteadyRun, CanMake, Makes, MakesAll}
use Rattle.aqe_steps.proofs.Ready.{Going, begun, going, can_make}

all_seen : (ms : List Making) → map seen (all_standing [] ms) ≡ ms
all_seen [] = refl
all_seen (m ∷ ms) = ap (λ rest. m ∷ rest) (all_seen ms)

-- some makings were made, and these are left
pub record SettledTo (entry now : Run) (left : List MakingData) : Type 0 where
  pub done : List Making
  pub going : Going entry done (map seen left) now
  pub whole : done ++ map seen left ≡ ready_of entry.whole entry.versions

pub settled_none : (run : Run) (makings left : List MakingData) → IsSteadyRun run → makings ≡ all_standing [] (ready_of run.whole run.versions) → left ≡ makings → SettledTo run run left
settled_none run makings left steady is same =
    let all : map seen left ≡ ready_of run.whole run.versions = ap (map seen) (same ∙ is) ∙ all_seen (ready_of run.whole run.versions) in
    record {
      done = [];
      going = subst (λ ms. Going run [] ms run) (sym all) (begun run steady);
      whole = all;
    }

pub can_make_next : (entry now : Run) (left rest : List MakingData) (making : MakingData) → SettledTo entry now left → left ≡ making ∷ rest → CanMake now (seen making)
can_make_next entry now left rest making s e = can_make now (seen making) (map seen rest) (subst (λ ms. Going entry s.done ms now) (ap (map seen) e) s.going).ready

pub settled_more : (entry now new : Run) (left rest : List MakingData) (making : MakingData) → SettledTo entry now left → left ≡ making ∷ rest → Makes now (seen making) new → SettledTo entry new rest
settled_more entry now new left rest making s e m = record {
  done = s.done ++ seen making ∷ [];
  going = going entry s.done (seen making) (map seen rest) now new (subst (λ ms. Going entry s.done ms now) (ap (map seen) e) s.going) m;
  whole = append_assoc s.done (seen making ∷ []) (map seen rest) ∙ ap (λ ms. s.done ++ ms) (sym (ap (map seen) e)) ∙ s.whole;
}

pub settled_end : (entry now : Run) (left : List MakingData) → SettledTo entry now left → left ≡ [] → MakesAll entry (ready_of entry.whole entry.versions) now
settled_end entry now left s e = subst (λ ms. MakesAll entry ms now) (sym (append-nil s.done) ∙ ap (λ ms. s.done ++ ms) (sym (ap (map seen) e)) ∙ s.whole) s.going.made

pub settled_steady : (entry now : Run) (left : List MakingData) → SettledTo entry now left → IsSteadyRun now
settled_steady entry now left s = s.going.ready.steady

-- a list without items
pub nothing_left : {X : Type 0} (xs : List X) (n : ℕ) → n ≡ length xs → n ≡ 0 → xs ≡ []
nothing_left [] n e z = refl
nothing_left (x ∷ xs) n e z = absurd (omega (arith, e, z))
