-- Small lines and files written out by hand: a check of the definitions.
use Rattle.std.proofs.Common.{◌≡◌, true, false, [], ◌∷◌, ◌++◌, refl, codes}
use Rattle.aqe_base.specs.declared.event.Event.TheVariants.{Ended, Lost}
use Rattle.aqe_events.specs.Lines.{Tells, HasForm, fields_of, is_decimal, value_of}
use Rattle.aqe_events.specs.Files.{lines_of, events_of}

-- fields stand between single spaces: two spaces have an empty field between them
three : fields_of (codes "ok 0 1") ≡ codes "ok" ∷ codes "0" ∷ codes "1" ∷ []
three = refl

empty_between : fields_of (codes "ok  1") ≡ codes "ok" ∷ [] ∷ codes "1" ∷ []
empty_between = refl

empty_behind : fields_of (codes "ok ") ≡ codes "ok" ∷ [] ∷ []
empty_behind = refl

nothing : fields_of [] ≡ [] ∷ []
nothing = refl

-- decimal numbers have no leading zeros
zero_alone : is_decimal (codes "0") ≡ true
zero_alone = refl

leading_zero : is_decimal (codes "01") ≡ false
leading_zero = refl

no_digit : is_decimal [] ≡ false
no_digit = refl

signed : is_decimal (codes "+1") ≡ false
signed = refl

twelve : value_of (codes "1207") ≡ 1207
twelve = refl

-- lines end with a line feed, the last may lack it; a carriage return right before a line feed is dropped
two_lines : lines_of (codes "a" ++ 10 ∷ codes "b") ≡ codes "a" ∷ codes "b" ∷ []
two_lines = refl

ended : lines_of (codes "a" ++ 10 ∷ []) ≡ codes "a" ∷ []
ended = refl

returned : lines_of (codes "a" ++ 13 ∷ 10 ∷ codes "b") ≡ codes "a" ∷ codes "b" ∷ []
returned = refl

kept_return : lines_of (codes "a" ++ 13 ∷ []) ≡ (codes "a" ++ 13 ∷ []) ∷ []
kept_return = refl

empty_line : lines_of (10 ∷ 10 ∷ codes "a") ≡ [] ∷ [] ∷ codes "a" ∷ []
empty_line = refl

no_line : lines_of [] ≡ []
no_line = refl

-- an ending that lacks its executor has no form
short : HasForm (Tells (Ended (record { 0 = 0 }) (record { 0 = 0 }) (record { 0 = 0 }))) (fields_of (codes "ok 0 0")) ≡ ⊥
short = refl

of_query : events_of 1 ((0, Lost (record { 0 = 3 })) ∷ (1, Lost (record { 0 = 4 })) ∷ []) ≡ Lost (record { 0 = 4 }) ∷ []
of_query = refl
