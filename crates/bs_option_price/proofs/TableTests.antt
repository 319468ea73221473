-- The two tests of the table, each computed at once for all 153 entries. In specs/ each stands inside the law that it proves, so that an edit of the table
-- is refused there by that law. Assumes nothing.
use Rattle.std.specs.Prelude.{T}
use Rattle.bs_option_price.specs.Table.{follows_rule, entry, nearest_entry}
use Rattle.bs_option_price.specs.Laws.Table.{all_entries, is_nearest}

pub all_follow_rule : T (all_entries follows_rule)
unfolding all_entries follows_rule
all_follow_rule = tt

pub all_nearest : T (all_entries is_nearest)
unfolding all_entries entry nearest_entry
all_nearest = tt
