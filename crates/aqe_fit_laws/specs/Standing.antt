-- How the parts of a plan stand where its rows have a placement.
use Rattle.std.specs.Prelude.{ℕ, ◌≡◌, List, length}
use Rattle.aqe_logical.specs.declared.plan.Placement.{Placement}
use Rattle.aqe_logical.specs.declared.plan.Placement.TheVariants as place
use Rattle.aqe_logical.specs.Answers.{Row}
use Rattle.aqe_logical.specs.Order.{key_of, before}
use Rattle.aqe_places.specs.Places.{by_hash, by_range}
use Rattle.aqe_places.specs.Laws.{Placed, PartsInOrder}
use Rattle.aqe_stages.specs.Places.{key_less}

-- How places are cut into parts: how many parts there are, and which of them each place goes to.
pub record Cut : Type 0 where
  pub size : ℕ
  pub number : ℕ → ℕ

-- a part for each of n places
abbrev pub plainly : ℕ → Cut
plainly n = record { size = n; number = λ place. place }

-- The rows of parts stand as a placement says, where a hash has n places. A Single placement has one part. Where rows are placed by hash or
-- by range, each stands in the part that its place goes to, so that rows of equal keys stand in one part; and by range no row of a later
-- part has a key before that of a row of an earlier part.
abbrev pub Stands : ℕ → Cut → Placement → List (List Row) → Type 0
Stands n cut place.Any parts = Unit {0}
Stands n cut place.Single parts = length parts ≡ 1
Stands n cut (place.Hash keys) parts = (length parts ≡ cut.size) × Placed (λ row. cut.number (by_hash n keys row)) 0 parts
Stands n cut (place.Range keys) parts =
    PartsInOrder (before keys) parts × (bounds : List Row) × Placed (λ row. cut.number (by_range (key_less keys) bounds (key_of keys) row)) 0 parts
Stands n cut place.Broadcast parts = Unit {0}
