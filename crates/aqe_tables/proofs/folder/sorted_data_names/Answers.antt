use Rattle.std.proofs.Common.{rules}
use Rattle.std.specs.Cmp.Lexicographic.{slice_cmp}
use Rattle.std.specs.Ordering.{is_lt, nat_cmp}
use Rattle.std.proofs.lemmas.Cmp.{nat_list_cmp_total}
use Rattle.std.proofs.lemmas.Fn.{always_returns_same}
use Rattle.std.proofs.lemmas.List.Elements.{filter_from_retain}
use Rattle.std.proofs.lemmas.List.MinMax.{ranks_by}
use Rattle.aqe_tables.specs.Folder.{is_data_name}
use Rattle.aqe_tables.proofs.folder.sorted_data_names.Goals as goal

pub returns-in-Ok-clause-kept : goal.returns-in-Ok-clause-kept
returns-in-Ok-clause-kept c =
    let is = filter_from_retain _ is_data_name (λ p x b q k. search rules) _ c.into_vec-names.result.items c.retain.new.self.items c.retain.ensures.filtered in
    rw (c.from_vec.ensures, ← c.into_vec-names.ensures, ← is) c.in-Ok.ensures.permutation

pub returns-in-Ok-clause-rising : goal.returns-in-Ok-clause-rising
returns-in-Ok-clause-rising c =
    rw c.from_vec.ensures
    (c.in-Ok.ensures.sorted (λ x y. is_lt (slice_cmp nat_cmp x y)) (ranks_by nat_list_cmp_total (λ x. x))
    (always_returns_same _ _ _ (λ a r f k. search rules)))
