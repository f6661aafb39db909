-- Rows that match have equal key rows.
use Rattle.std.proofs.Common.{◌≡◌, Bool, true, false, ◌&&◌, [], ◌∷◌, ◌++◌, refl, ap}
use Rattle.aqe_values.specs.Murmur.{hash_place}
use Rattle.aqe_expr.specs.Meaning.{holds}
use Rattle.aqe_expr.specs.Truths.{equals, is_known_true}
use Rattle.aqe_scalar.proofs.Meeting as values
use Rattle.aqe_logical.specs.Answers.{Row}
use Rattle.aqe_logical.specs.Groups.{row_of}
use Rattle.aqe_join_rows.specs.Matching.{keys_meet}
use Rattle.aqe_join_laws.specs.Laws.{MatchingRowsHaveEqualKeys, MatchingRowsHaveOnePlace}

first_of : (a b : Bool) → (a && b) ≡ true → a ≡ true
first_of true b h = refl
first_of false b h = absurd (cc)

second_of : (a b : Bool) → (a && b) ≡ true → b ≡ true
second_of true b h = h
second_of false b h = absurd (cc)

pub equal_where_met : (ks js : Row) → keys_meet ks js ≡ true → ks ≡ js
equal_where_met [] [] h = refl
equal_where_met [] (j ∷ js) h = absurd (cc)
equal_where_met (k ∷ ks) [] h = absurd (cc)
equal_where_met (k ∷ ks) (j ∷ js) h =
    let one : k ≡ j = ((values.keys_meet k j).0 (first_of (is_known_true (equals k j)) (keys_meet ks js) h)).0 in
    let more : ks ≡ js = equal_where_met ks js (second_of (is_known_true (equals k j)) (keys_meet ks js) h) in
    λ i. one i ∷ more i

pub equal_keys : MatchingRowsHaveEqualKeys
equal_keys keys x y h =
    equal_where_met (row_of keys.left x) (row_of keys.right y) (first_of (keys_meet (row_of keys.left x) (row_of keys.right y)) (holds keys.rest (x ++ y)) h)

pub one_place : MatchingRowsHaveOnePlace
one_place n keys x y h = ap (hash_place n) (equal_keys keys x y h)
