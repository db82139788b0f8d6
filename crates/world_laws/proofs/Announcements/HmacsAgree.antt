-- No step is answered that an announcement has a wrong HMAC, whatever the script does: only B announces addresses, once its book was
-- told both keys, and A shows these once its own book has B's.
--
-- That an announcement shows the right HMAC (`proofs/Announcements/HmacsAgree`) is one more deed, that a side's book
-- has the peer's key (`Keyed`). A shows both keys once its book did so, B's book is confirmed by these alone, a
-- confirmed book alone announces, and A's is never confirmed: so each announcement in a queue is B's, and where it is
-- heard the book has the key. What holds of all that an end has to note is kept by one set of lemmas over any predicate
-- (`proofs/Announcements/Queued`).
use Rattle.world_laws.proofs.Words.{refl, ℕ, true, List, [], ◌∷◌, Carried, values, Always, opened_world, WorldState, Turn, after_turn, world_run}
use Rattle.world_laws.proofs.Words.{AddressesAreRight, tells_bad_address}
use Rattle.world_laws.proofs.Joins.TokensAgree.{WorldMet, opened_met, turn_met}
use Rattle.world_laws.proofs.Keys.ToldAreOwn.{addresses_untold}
use Rattle.world_laws.proofs.Promises.NoSuchNote.{NoneTold, from_each, turn_none, opened_none}

run_addresses : (key_a key_b : ℕ) (turns : List Turn) (w : WorldState Carried) → WorldMet key_a key_b w → NoneTold tells_bad_address values w → NoneTold tells_bad_address values (world_run values turns w)
run_addresses key_a key_b [] w h none = none
run_addresses key_a key_b (turn ∷ turns) w h none =
    run_addresses key_a key_b turns (after_turn values turn w) (turn_met key_a key_b turn w h)
    (turn_none tells_bad_address values turn w (addresses_untold key_a key_b true refl w h.keys) none)

pub addresses_are_right : Always values (λ start w. AddressesAreRight w)
addresses_are_right start turns =
    from_each tells_bad_address values (world_run values turns (opened_world start))
    (run_addresses start.key_a start.key_b turns (opened_world start) (opened_met start) (opened_none tells_bad_address values start))
