-- Lemmas that the check tries where a place's quote is tested. Assumes nothing.
use Rattle.ladder.specs.Laws.Places.{early_reply, early_root, decided_refusal, decided_root, open_reply_lem, open_root, from_roots_open}

pub ruleset tests_1_to_6 = (early_reply, early_root, decided_refusal, decided_root, open_reply_lem, open_root, from_roots_open)
