-- The known end, the window, and what lies below them.
use Rattle.std.proofs.Common.{◌≡◌, refl, sym, ap, subst, ℕ, zero, suc, ◌+◌, ◌≤◌, min, max, Bool, true, false, ◌&&◌, ◌==◌, nat_lt, if◌then◌else◌, Option, Some, None, is_some, IfSome, List, [], ◌∷◌, length, take, drop, arith}
use Rattle.std.proofs.lemmas.Grind.{common_steps}
use Rattle.std.proofs.lemmas.Bool.{eqb-true, ltb-false, lt-ltb, eq-eqb}
use Rattle.std.proofs.lemmas.List.{length-drop, length-take}
use Rattle.reassembly_book.specs.declared.call.ReassemblyCall.{ReassemblyCall}
use Rattle.reassembly_book.specs.declared.call.ReassemblyCall.TheVariants.{Place, Fin, Read, AckOut, Abort}
use Rattle.reassembly_book.specs.declared.call.ReassemblyReply.TheVariants.{Bytes, End, NoneYet}
use Rattle.reassembly_book.specs.State.{Arriving, filled, received, top, new_arriving, IsSound}
use Rattle.reassembly_book.specs.Steps.{by_place, merged, edge, reaches_past, clash, is_taken, places_after, fin_clash, is_end, bytes_reply, reading, after_reading, reply_to, after_call}
use Rattle.reassembly_book.specs.Laws.{after_calls, read_by, told_edge}
use Rattle.reassembly_book.proofs.Arrivals.{read_by-len}

end-if : (c : Bool) (one other : Arriving) (o : Option ℕ) → one.known_end ≡ o → other.known_end ≡ o → (if c then one else other).known_end ≡ o
end-if true one other o h k = h
end-if false one other o h k = k

end-after_fin : (at e : ℕ) (same : Bool) (b : Arriving) → (e == at) ≡ same → b.known_end ≡ Some e
    → (if is_some (if same then None else Some e) then b else record b { known_end = Some at }).known_end ≡ Some e
end-after_fin at e true b is h = ap Some (sym (eqb-true e at is))
end-after_fin at e false b is h = h

end-after_call : (call : ReassemblyCall) (b : Arriving) (e : ℕ) → b.known_end ≡ Some e → (after_call b call).known_end ≡ Some e
end-after_call (Place at bytes) b e h = end-if (is_taken at bytes b) (record b { places = places_after at bytes b }) b (Some e) h h
end-after_call (Fin at) b e h =
    subst {A = Option ℕ} (λ o. (if is_some (fin_clash o at b) then b else record b { known_end = Some at }).known_end ≡ Some e) (sym h)
    (end-after_fin at e (e == at) b refl h)
end-after_call (Read max) b e h = end-if (is_some b.aborted) b (after_reading max b) (Some e) h h
end-after_call AckOut b e h = h
end-after_call (Abort by_peer) b e h = h

pub known_end_stays : (calls : List ReassemblyCall) (b : Arriving) (e : ℕ) → b.known_end ≡ Some e → (after_calls calls b).known_end ≡ Some e
known_end_stays [] b e h = h
known_end_stays (call ∷ calls) b e h = known_end_stays calls (after_call b call) e (end-after_call call b e h)

pub length-merged : (places others : List (Option ℕ)) → length (merged places others) ≡ max (length places) (length others)
length-merged [] others = omega arith
length-merged (place ∷ places) [] = omega arith
length-merged (Some byte ∷ places) (other ∷ others) = omega (arith, length-merged places others)
length-merged (None ∷ places) (other ∷ others) = omega (arith, length-merged places others)

filled-le : (places : List (Option ℕ)) → length (filled places) ≤ length places
filled-le [] = omega arith
filled-le (None ∷ places) = omega arith
filled-le (Some byte ∷ places) = omega (arith, filled-le places)

filled-merged : (places others : List (Option ℕ)) → length (filled places) ≤ length (filled (merged places others))
filled-merged [] others = omega arith
filled-merged (None ∷ places) [] = omega arith
filled-merged (Some byte ∷ places) [] = omega arith
filled-merged (Some byte ∷ places) (other ∷ others) = omega (arith, filled-merged places others)
filled-merged (None ∷ places) (other ∷ others) = omega arith

filled-drop : (n : ℕ) (places : List (Option ℕ)) → n ≤ length (filled places) → n + length (filled (drop n places)) ≡ length (filled places)
filled-drop zero places within = omega arith
filled-drop (suc n) [] within = absurd (omega (arith, within))
filled-drop (suc n) (None ∷ places) within = absurd (omega (arith, within))
filled-drop (suc n) (Some byte ∷ places) within = omega (arith, filled-drop n places (omega (arith, within)))

pub not_both : (one other : Bool) → one ≡ true → (one && other) ≡ false → other ≡ false
not_both true other h e = e
not_both false other h e = cc

-- bytes that don't reach past a place lie below it
length-by_place : (at read place : ℕ) (bytes : List ℕ) → reaches_past place at bytes ≡ false → read + length (drop read (by_place at bytes)) ≤ max place read
length-by_place at read place [] e = grind (arith, common_steps)
length-by_place at read place (byte ∷ bytes) e =
    let some : nat_lt 0 (length (byte ∷ bytes)) ≡ true = lt-ltb 0 (length (byte ∷ bytes)) (omega arith) in
    let past : nat_lt place (at + length (byte ∷ bytes)) ≡ false = not_both (nat_lt 0 (length (byte ∷ bytes))) _ some e in
    let below : at + length (byte ∷ bytes) ≤ place = ltb-false place (at + length (byte ∷ bytes)) past in
    grind (arith, common_steps, below)

sound-taken : (at : ℕ) (bytes : List ℕ) (b : Arriving) → IsSound b → reaches_past (edge b) at bytes ≡ false
    → (o : Option ℕ) → o ≡ b.known_end → is_some (clash o at bytes) ≡ false → IsSound (record b { places = places_after at bytes b })
sound-taken at bytes b sound inside None e none = record {
  ends = rw (← e) tt;
  fits = omega (arith, length-merged b.places (drop b.read (by_place at bytes)), length-by_place at b.read (edge b) bytes inside, sound.fits);
}
sound-taken at bytes b sound inside (Some e) is none =
    let ends : top b ≤ e = subst (λ o. IfSome o (λ k. top b ≤ k)) (sym is) sound.ends in
    let below : reaches_past e at bytes ≡ false = (elim (reaches_past e at bytes) as (λ c. is_some (if c then Some e else None) ≡ false → c ≡ false)
    [ true ↦ λ h. cc | false ↦ λ h. refl ]) none in
    record {
      ends = subst (λ o. IfSome o (λ k. top (record b { places = places_after at bytes b }) ≤ k)) is
          (omega (arith, length-merged b.places (drop b.read (by_place at bytes)), length-by_place at b.read e bytes below, ends));
      fits = omega (arith, length-merged b.places (drop b.read (by_place at bytes)), length-by_place at b.read (edge b) bytes inside, sound.fits);
    }

sound-place : (at : ℕ) (bytes : List ℕ) (b : Arriving) (past known : Bool) → IsSound b → reaches_past (edge b) at bytes ≡ past
    → is_some (clash b.known_end at bytes) ≡ known
    → IsSound (if (if past then false else (if known then false else true)) then record b { places = places_after at bytes b } else b)
sound-place at bytes b true known sound p k = sound
sound-place at bytes b false true sound p k = sound
sound-place at bytes b false false sound p k = sound-taken at bytes b sound p b.known_end refl k

sound-fin : (at : ℕ) (b : Arriving) (o : Option ℕ) → o ≡ b.known_end → IsSound b
    → IsSound (if is_some (fin_clash o at b) then b else record b { known_end = Some at })
sound-fin at b None is sound = (elim (nat_lt at (top b)) as (λ c. nat_lt at (top b) ≡ c → IsSound (if is_some (if c then Some (top b) else None) then b else record b { known_end = Some at }))
    [ true ↦ λ e. sound | false ↦ λ e. record { ends = ltb-false _ _ e; fits = sound.fits } ]) refl
sound-fin at b (Some e) is sound = (elim (e == at) as (λ c. (e == at) ≡ c → IsSound (if is_some (if c then None else Some e) then b else record b { known_end = Some at }))
    [ true ↦ λ same. record { ends = subst (λ k. top b ≤ k) (eqb-true e at same) ends; fits = sound.fits } | false ↦ λ same. sound ]) refl
  where
    ends : top b ≤ e
    ends = subst (λ o. IfSome o (λ k. top b ≤ k)) (sym is) sound.ends

IfSome-map : (o : Option ℕ) (P Q : ℕ → Type 0) → ((k : ℕ) → P k → Q k) → IfSome o P → IfSome o Q
IfSome-map None P Q f h = tt
IfSome-map (Some k) P Q f h = f k h

top-after_reading : (count : ℕ) (b : Arriving) → top (after_reading count b) ≡ top b
top-after_reading count b =
    let n : ℕ = min count (length (filled b.places)) in
    omega (arith, length-drop (min count (length (filled b.places))) b.places, filled-le b.places)

pub sound-reading : (count : ℕ) (b : Arriving) → IsSound b → IsSound (after_reading count b)
sound-reading count b sound = record {
  ends = IfSome-map b.known_end _ _ (λ k h. omega (arith, h, top-after_reading count b)) sound.ends;
  fits = omega (arith, length-drop (min count (length (filled b.places))) b.places, sound.fits);
}

sound-if : (c : Bool) (one other : Arriving) → IsSound one → IsSound other → IsSound (if c then one else other)
sound-if true one other h k = h
sound-if false one other h k = k

pub sound-after_call : (call : ReassemblyCall) (b : Arriving) → IsSound b → IsSound (after_call b call)
sound-after_call (Place at bytes) b h = sound-place at bytes b _ _ h refl refl
sound-after_call (Fin at) b h = sound-fin at b b.known_end refl h
sound-after_call (Read max) b h = sound-if (is_some b.aborted) b (after_reading max b) h (sound-reading max b h)
sound-after_call AckOut b h = h
sound-after_call (Abort by_peer) b h = record { ends = h.ends; fits = h.fits }

pub sound-after_calls : (calls : List ReassemblyCall) (b : Arriving) → IsSound b → IsSound (after_calls calls b)
sound-after_calls [] b h = h
sound-after_calls (call ∷ calls) b h = sound-after_calls calls (after_call b call) (sound-after_call call b h)

pub sound-opened : (capacity : ℕ) → IsSound (new_arriving capacity)
sound-opened capacity = record { ends = tt; fits = omega arith }

pub read_below_the_end : (calls : List ReassemblyCall) (capacity e : ℕ) → (after_calls calls (new_arriving capacity)).known_end ≡ Some e
    → length (read_by calls (new_arriving capacity)) ≤ e
read_below_the_end calls capacity e h =
    let sound : IsSound (after_calls calls (new_arriving capacity)) = sound-after_calls calls (new_arriving capacity) (sound-opened capacity) in
    let ends : top (after_calls calls (new_arriving capacity)) ≤ e = subst (λ o. IfSome o (λ k. top (after_calls calls (new_arriving capacity)) ≤ k)) h sound.ends in
    omega (arith, ends, read_by-len calls capacity)

-- what was told: the edge, and one more where the end is reached
told-is : (b : Arriving) → IsSound b → told_edge b ≡ edge b + (if is_end b.known_end (received b) then 1 else 0)
told-is b sound = omega (arith, sound.fits, filled-le b.places)

-- more has arrived, and the known end stays
record GoesOn (b after : Arriving) : Type 0 where
  read : b.read ≤ after.read
  room : after.capacity ≡ b.capacity
  arrived : received b ≤ received after
  stays : (e : ℕ) → b.known_end ≡ Some e → after.known_end ≡ Some e

goes_on-same : (b : Arriving) → GoesOn b b
goes_on-same b = record { read = omega arith; room = refl; arrived = omega arith; stays = λ e h. h }

goes_on-if : (c : Bool) (b one other : Arriving) → GoesOn b one → GoesOn b other → GoesOn b (if c then one else other)
goes_on-if true b one other h k = h
goes_on-if false b one other h k = k

goes_on-reading : (count : ℕ) (b : Arriving) → GoesOn b (after_reading count b)
goes_on-reading count b =
    let within : min count (length (filled b.places)) ≤ length (filled b.places) = omega arith in
    record {
      read = omega arith;
      room = refl;
      arrived = omega (arith, filled-drop (min count (length (filled b.places))) b.places within);
      stays = λ e h. h;
    }

goes_on-placed : (at : ℕ) (bytes : List ℕ) (b : Arriving) → GoesOn b (record b { places = places_after at bytes b })
goes_on-placed at bytes b = record {
  read = omega arith;
  room = refl;
  arrived = omega (arith, filled-merged b.places (drop b.read (by_place at bytes)));
  stays = λ e h. h;
}

fields-fin : (at : ℕ) (b : Arriving) (c : Bool) → let after : Arriving = (if c then b else record b { known_end = Some at }) in
    (b.read ≤ after.read) × (after.capacity ≡ b.capacity) × (received b ≤ received after)
fields-fin at b true = (omega arith, refl, omega arith)
fields-fin at b false = (omega arith, refl, omega arith)

goes_on : (call : ReassemblyCall) (b : Arriving) → GoesOn b (after_call b call)
goes_on (Place at bytes) b = goes_on-if (is_taken at bytes b) b (record b { places = places_after at bytes b }) b (goes_on-placed at bytes b) (goes_on-same b)
goes_on (Fin at) b =
    let fields = fields-fin at b (is_some (fin_clash b.known_end at b)) in
    record { read = fields.0; room = fields.1; arrived = fields.2; stays = λ e h. end-after_call (Fin at) b e h }
goes_on (Read max) b = goes_on-if (is_some b.aborted) b b (after_reading max b) (goes_on-same b) (goes_on-reading max b)
goes_on AckOut b = goes_on-same b
goes_on (Abort by_peer) b = record { read = omega arith; room = refl; arrived = omega arith; stays = λ e h. h }

-- an end that is reached stays so
end-reached : (o later : Option ℕ) (place past : ℕ) → ((e : ℕ) → o ≡ Some e → later ≡ Some e) → place ≤ past → IfSome later (λ e. past ≤ e)
    → (if is_end o place then 1 else 0) ≤ (if is_end later past then 1 else 0)
end-reached None later place past stays more ends = omega arith
end-reached (Some e) later place past stays more ends = by (e == place) refl
  where
    known : later ≡ Some e
    known = stays e refl

    by : (c : Bool) → (e == place) ≡ c → (if c then 1 else 0) ≤ (if is_end later past then 1 else 0)
    by false is = omega arith
    by true is =
        let same : e ≡ place = eqb-true e place is in
        let most : past ≤ e = subst (λ o. IfSome o (λ k. past ≤ k)) known ends in
        let reached : (e == past) ≡ true = eq-eqb e past (omega (arith, same, most, more)) in
        rw (known, reached) (omega arith)

told-after_call : (call : ReassemblyCall) (b : Arriving) → IsSound b → told_edge b ≤ told_edge (after_call b call)
told-after_call call b sound =
    let after : Arriving = after_call b call in
    let later : IsSound (after_call b call) = sound-after_call call b sound in
    let on : GoesOn b (after_call b call) = goes_on call b in
    let ends = IfSome-map (after_call b call).known_end _ (λ e. received (after_call b call) ≤ e)
    (λ k h. omega (arith, h, filled-le (after_call b call).places)) later.ends in
    let reached = end-reached b.known_end (after_call b call).known_end (received b) (received (after_call b call)) on.stays on.arrived ends in
    omega (arith, told-is b sound, told-is (after_call b call) later, reached, on.read, on.room)

pub told_window_stays : (calls : List ReassemblyCall) (b : Arriving) → IsSound b → told_edge b ≤ told_edge (after_calls calls b)
told_window_stays [] b sound = omega arith
told_window_stays (call ∷ calls) b sound =
    omega (arith, told-after_call call b sound, told_window_stays calls (after_call b call) (sound-after_call call b sound))

-- what a read gives
given : (max : ℕ) (b : Arriving) (aborted : Option Bool) (bytes : List ℕ) → reading aborted max b ≡ Bytes bytes
    → (1 ≤ length bytes) × (length bytes ≤ max)
given max b (Some by_peer) bytes e = cc
given max b None bytes e = at (take max (filled b.places)) refl e
  where
    none : (c : Bool) → (if c then End else NoneYet) ≡ Bytes bytes → ⊥
    none true e = cc
    none false e = cc

    at : (taken : List ℕ) → take max (filled b.places) ≡ taken → bytes_reply taken b ≡ Bytes bytes → (1 ≤ length bytes) × (length bytes ≤ max)
    at [] is e = absurd (none _ e)
    at (byte ∷ more) is e =
        let same : (byte ∷ more) ≡ bytes = cc in
        let len : length (byte ∷ more) ≤ max = subst (λ xs. length xs ≤ max) is (omega (arith, length-take max (filled b.places))) in
        subst (λ xs. (1 ≤ length xs) × (length xs ≤ max)) same (omega arith, len)

pub some_bytes : (b : Arriving) (max : ℕ) (bytes : List ℕ) → reply_to b (Read max) ≡ Bytes bytes → 1 ≤ length bytes
some_bytes b max bytes e = (given max b b.aborted bytes e).0

pub most_bytes : (b : Arriving) (max : ℕ) (bytes : List ℕ) → reply_to b (Read max) ≡ Bytes bytes → length bytes ≤ max
most_bytes b max bytes e = (given max b b.aborted bytes e).1
