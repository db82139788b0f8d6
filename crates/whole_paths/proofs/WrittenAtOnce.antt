-- Into an empty book an application writes all of a file that fits it, by one call.
use Rattle.std.proofs.Common.{◌≡◌, refl, sym, subst, ap, ◌∙◌, inl, inr, ◌⊎◌, ⊎_elim, ℕ, ◌-◌, ◌^◌, ◌<◌, ◌≤◌, ◌||◌, arith, Bool, true, false, if◌then◌else◌, List, ◌∷◌, ◌++◌, drop, length, length-append, length-take}
use Rattle.std.proofs.lemmas.List.{length-drop}
use Rattle.sides.specs.declared.side.Side.{Side}
use Rattle.sides.specs.declared.side.Side.TheVariants.{A, B}
use Rattle.send_book.specs.State.{Sending}
use Rattle.send_book.specs.Steps.{bytes_taken, write_reply}
use Rattle.send_book.specs.declared.call.SendCall.TheVariants as calls
use Rattle.send_book.specs.declared.call.SendReply.TheVariants as send_replies
use Rattle.actor_desk.specs.Books.{books_in}
use Rattle.actor_desk.specs.Desk.{SixBooks, after_ask, reply_of}
use Rattle.actor_desk.specs.Words.{pick}
use Rattle.actor_desk.specs.declared.ask.Reply.{Reply}
use Rattle.actor_desk.specs.declared.ask.Reply.TheVariants as replies
use Rattle.stream_apps.specs.Apps.{AppState}
use Rattle.stream_apps.specs.AppSteps.{app_answered, app_answers, app_ask, app_next_round, app_settles_down, app_takes, fresh_turn, offered, start_of_app, taken_in}
use Rattle.stream_apps.specs.Starts.{fast_close_of, untouched}
use Rattle.stream_apps.specs.declared.duty.AppDuty.{AppDuty}
use Rattle.stream_apps.specs.declared.duty.AppDuty.TheVariants as app_duties
use Rattle.path_core.specs.Codec.{Codec}
use Rattle.path_core.specs.Duties.{ask_for}
use Rattle.world_laws.specs.Openings.{Start, opened_world}
use Rattle.world_laws.specs.Promises.{NumbersFit, written_by}
use Rattle.world_laws.specs.RoundDone.{reached}
use Rattle.world_laws.specs.Worlds.{Turn, WorldState, world_run}
use Rattle.world_laws.proofs.Lanes.Applying.{settled_app}
use Rattle.world_laws.proofs.Weaving.Journals.{books_after}
use Rattle.world_laws.proofs.Worlds.CastLifting.{Has, Stepwise, turns_have}
use Rattle.world_laws.proofs.Worlds.Casts.{Cast, first_cast, first_fare, opened_is}
use Rattle.whole_paths.specs.WrittenAtOnce.{WhatFitsIsWrittenAtOnce}
use Rattle.whole_paths.proofs.Writers.{Changes, buffer_after, changed_by, own_a, own_after, own_b, told_a, told_b}
use Rattle.whole_paths.proofs.Writers.Changes.{by_call, stays_so}

-- ---- an application with its book

module _ (buffer : ℕ) (file : List ℕ) (fits : length file ≤ buffer) (short : length file < 2 ^ 31 - 2) where
  -- all is left, or nothing
  abbrev AllOrNone : List ℕ → Type 0
  AllOrNone rest = (length rest ≡ length file) ⊎ (length rest ≡ 0)

  record Once (a : AppState) (b : Sending) : Type 0 where
    size : a.buffer ≡ buffer
    room : b.buffer ≡ buffer
    rest : AllOrNone a.rest

  module _ (a : AppState) (b : Sending) (whole : file ≡ b.written ++ a.rest) (h : Once a b) where
    all_taken : length (drop (bytes_taken (offered a) b) a.rest) ≡ 0
    all_taken =
        let sizes : length file ≡ length (b.written ++ a.rest) = ap (λ (xs : List ℕ). length xs) whole in
        let parts = length-append b.written a.rest in
        let front = length-take a.buffer a.rest in
        let left = length-drop (bytes_taken (offered a) b) a.rest in
        let size = h.size in let room = h.room in
        ⊎_elim (λ all. omega (arith, sizes, parts, front, left, size, room, all, fits, short)) (λ none. omega (arith, left, none)) h.rest

    written : AllOrNone (drop (taken_in (replies.Send (write_reply (offered a) b))) a.rest)
    written = by (b.closed || b.aborted)
      where
        by : (c : Bool) → AllOrNone (drop (taken_in (replies.Send (if c then send_replies.Shut else send_replies.Taken (bytes_taken (offered a) b)))) a.rest)
        by true = h.rest
        by false = inr all_taken

    module _ (r : Reply) where
      rest_after : (d : AppDuty) → (d ≡ app_duties.Write → r ≡ replies.Send (write_reply (offered a) b)) → AllOrNone (app_answered d r a).rest
      rest_after app_duties.Write told = subst (λ x. AllOrNone (drop (taken_in x) a.rest)) (sym (told refl)) written
      rest_after app_duties.FastClose told = h.rest
      rest_after _ told = h.rest

      size_after : (d : AppDuty) → (app_answered d r a).buffer ≡ buffer
      size_after app_duties.FastClose = h.size
      size_after _ = h.size

      room_after : (d : AppDuty) → (own_after d a b).buffer ≡ buffer
      room_after app_duties.AbortSend = buffer_after b calls.Abort ∙ h.room
      room_after app_duties.Write = buffer_after b (calls.Write (offered a)) ∙ h.room
      room_after app_duties.Close = buffer_after b calls.Close ∙ h.room
      room_after _ = h.room

      -- by a step of its own
      once_after : (d : AppDuty) (ds : List AppDuty) → a.agenda ≡ d ∷ ds → (d ≡ app_duties.Write → r ≡ replies.Send (write_reply (offered a) b)) → Once (app_takes r a) (own_after d a b)
      once_after d ds is told =
          let m : AppState = app_answered d r a in
          let st = settled_app m.agenda m in
          subst (λ (y : AppState). Once y (own_after d a b)) (sym (ap (λ xs. app_settles_down (app_answers xs r a)) is)) (record {
            size = ap (λ (y : AppState). y.buffer) st.is ∙ size_after d;
            room = room_after d;
            rest = subst AllOrNone (sym (ap (λ (y : AppState). y.rest) st.is)) (rest_after d told);
          })

  -- by one of another actor
  once_other : (a : AppState) (b c : Sending) → Changes b c → Once a b → Once a c
  once_other a b _ stays_so h = h
  once_other a b _ (by_call x) h = record { size = h.size; room = buffer_after b x ∙ h.room; rest = h.rest }

  -- as a turn begins
  once_next : (a : AppState) (b : Sending) → Once a b → Once (app_next_round a) b
  once_next a b h = let st = settled_app start_of_app (fresh_turn a) in record {
    size = ap (λ (y : AppState). y.buffer) st.is ∙ h.size;
    room = h.room;
    rest = subst AllOrNone (sym (ap (λ (y : AppState). y.rest) st.is)) h.rest;
  }

-- ---- the world

module _ {C : Type 0} (k : Codec C) (start : Start) (fit : NumbersFit start) where
  module _ (fits : length start.file_a ≤ start.buffer) where
    abbrev OnceA : Cast C → Type 0
    OnceA t = Once start.buffer start.file_a fits fit.short_a t.a (books_in t.books).send_a

    other_a : (a : AppState) (b c : Sending) → Changes b c → Once start.buffer start.file_a fits fit.short_a a b → Once start.buffer start.file_a fits fit.short_a a c
    other_a = once_other start.buffer start.file_a fits fit.short_a

    kept_a : Stepwise k start OnceA
    kept_a = record {
      a = λ t f d ds is h.
          (let six = books_in t.books in let ask = app_ask d t.a in
          subst (λ (x : SixBooks). Once start.buffer start.file_a fits fit.short_a (app_takes (reply_of six ask) t.a) x.send_a) (sym (books_after ask t.at_a.pass t.books))
          (subst (Once start.buffer start.file_a fits fit.short_a (app_takes (reply_of six ask) t.a)) (sym (own_a d t.a six f.a.side_is))
          (once_after start.buffer start.file_a fits fit.short_a t.a six.send_a f.a.writes.prefix h (reply_of six ask) d ds is (told_a d t.a six f.a.side_is))));
      b = λ t f d ds is h. (let six = books_in t.books in let ask = app_ask d t.b in
          subst (λ (x : SixBooks). Once start.buffer start.file_a fits fit.short_a t.a x.send_a) (sym (books_after ask t.at_b.pass t.books)) (other_a t.a six.send_a (after_ask ask six).send_a (changed_by ask six A) h));
      path = λ t f number x there d ds is h. (let six = books_in t.books in let ask = ask_for k d x.path in
          subst (λ (y : SixBooks). Once start.buffer start.file_a fits fit.short_a t.a y.send_a) (sym (books_after ask x.at.pass t.books)) (other_a t.a six.send_a (after_ask ask six).send_a (changed_by ask six A) h));
    }

    first_a : OnceA (first_cast start)
    first_a = let st = settled_app start_of_app (untouched A start.buffer start.file_a (fast_close_of A start.lines)) in record {
      size = ap (λ (y : AppState). y.buffer) st.is;
      room = refl;
      rest = inl (ap (λ (y : AppState). length y.rest) st.is);
    }

    always_a : (turns : List Turn) → Has start OnceA (world_run k turns (opened_world start))
    always_a turns = turns_have k start OnceA kept_a (λ t f h. once_next start.buffer start.file_a fits fit.short_a t.a (books_in t.books).send_a h) turns (opened_world start)
        (record { cast = first_cast start; is = opened_is start; fare = first_fare start; holds = first_a })

  module _ (fits : length start.file_b ≤ start.buffer) where
    abbrev OnceB : Cast C → Type 0
    OnceB t = Once start.buffer start.file_b fits fit.short_b t.b (books_in t.books).send_b

    other_b : (a : AppState) (b c : Sending) → Changes b c → Once start.buffer start.file_b fits fit.short_b a b → Once start.buffer start.file_b fits fit.short_b a c
    other_b = once_other start.buffer start.file_b fits fit.short_b

    kept_b : Stepwise k start OnceB
    kept_b = record {
      a = λ t f d ds is h. (let six = books_in t.books in let ask = app_ask d t.a in
          subst (λ (x : SixBooks). Once start.buffer start.file_b fits fit.short_b t.b x.send_b) (sym (books_after ask t.at_a.pass t.books)) (other_b t.b six.send_b (after_ask ask six).send_b (changed_by ask six B) h));
      b = λ t f d ds is h.
          (let six = books_in t.books in let ask = app_ask d t.b in
          subst (λ (x : SixBooks). Once start.buffer start.file_b fits fit.short_b (app_takes (reply_of six ask) t.b) x.send_b) (sym (books_after ask t.at_b.pass t.books))
          (subst (Once start.buffer start.file_b fits fit.short_b (app_takes (reply_of six ask) t.b)) (sym (own_b d t.b six f.b.side_is))
          (once_after start.buffer start.file_b fits fit.short_b t.b six.send_b f.b.writes.prefix h (reply_of six ask) d ds is (told_b d t.b six f.b.side_is))));
      path = λ t f number x there d ds is h. (let six = books_in t.books in let ask = ask_for k d x.path in
          subst (λ (y : SixBooks). Once start.buffer start.file_b fits fit.short_b t.b y.send_b) (sym (books_after ask x.at.pass t.books)) (other_b t.b six.send_b (after_ask ask six).send_b (changed_by ask six B) h));
    }

    first_b : OnceB (first_cast start)
    first_b = let st = settled_app start_of_app (untouched B start.buffer start.file_b (fast_close_of B start.lines)) in record {
      size = ap (λ (y : AppState). y.buffer) st.is;
      room = refl;
      rest = inl (ap (λ (y : AppState). length y.rest) st.is);
    }

    always_b : (turns : List Turn) → Has start OnceB (world_run k turns (opened_world start))
    always_b turns = turns_have k start OnceB kept_b (λ t f h. once_next start.buffer start.file_b fits fit.short_b t.b (books_in t.books).send_b h) turns (opened_world start)
        (record { cast = first_cast start; is = opened_is start; fare = first_fare start; holds = first_b })

  -- what isn't left is written
  written_so : (file rest : List ℕ) (b : Sending) → file ≡ b.written ++ rest → (length rest ≡ length file) ⊎ (length rest ≡ 0) → (length b.written ≡ 0) ⊎ (length b.written ≡ length file)
  written_so file rest b whole h =
      let sizes : length file ≡ length (b.written ++ rest) = ap (λ (xs : List ℕ). length xs) whole in let parts = length-append b.written rest in
      ⊎_elim (λ all. inl (omega (arith, sizes, parts, all))) (λ none. inr (omega (arith, sizes, parts, none))) h

  at_side : (turns : List Turn) (s : Side) → length (pick s start.file_a start.file_b) ≤ start.buffer → let b : Sending = written_by s (reached k start turns) in
      (length b.written ≡ 0) ⊎ (length b.written ≡ length (pick s start.file_a start.file_b))
  at_side turns A fits = let h = always_a fits turns in
      subst (λ (w : WorldState C). (length (written_by A w).written ≡ 0) ⊎ (length (written_by A w).written ≡ length start.file_a)) (sym h.is)
      (written_so start.file_a h.cast.a.rest (books_in h.cast.books).send_a h.fare.a.writes.prefix h.holds.rest)
  at_side turns B fits = let h = always_b fits turns in
      subst (λ (w : WorldState C). (length (written_by B w).written ≡ 0) ⊎ (length (written_by B w).written ≡ length start.file_b)) (sym h.is)
      (written_so start.file_b h.cast.b.rest (books_in h.cast.books).send_b h.fare.b.writes.prefix h.holds.rest)

pub what_fits_is_written_at_once : {C : Type 0} (k : Codec C) → WhatFitsIsWrittenAtOnce k
what_fits_is_written_at_once k start turns s fit fits = at_side k start fit turns s fits
