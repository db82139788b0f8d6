-- Where the turn of a path is over, an end that may ask for bytes was refused over all that was written as the round began.
use Rattle.world_laws.proofs.Words.{◌≡◌, refl, sym, ◌∙◌, ap, subst, ℕ, ◌+◌, ◌≤◌, ◌||◌, not, nat_lt, inl, Bool, true, false, if◌then◌else◌, Option, Some, None}
use Rattle.world_laws.proofs.Words.{List, [], ◌∷◌, ◌++◌, arith, and_parts, false≢true, ltb-false, count_by, Side, A, B, peer, SendCall, Sending, is_held_by}
use Rattle.world_laws.proofs.Words.{Record, Duty, SendDuty, StepDuty, AskDuty, SilentDuty, Ask, Note, Reply, SixBooks, send_of, reply_of, after_ask}
use Rattle.world_laws.proofs.Words.{after_send_call, AppDuty, AppState, app_ask, offered, Codec, ask_for, answered, PathState, end_at, with_agenda, path_of}
use Rattle.world_laws.proofs.Words.{takes, answered_data, answered_grant, first_unsent, grant_in, data_ask, grant_ask, item_of, identity_ask, asks_grant}
use Rattle.world_laws.proofs.Words.{frees_bytes, AskedForAll, is_standby}
use Rattle.send_book.specs.Steps.{reply_to, after_call}
use Rattle.path_core.specs.Emission.{Grant}
use Rattle.world_laws.proofs.Asks.SendBooks.{IsOnes, IsQuiet, ones_after, all_after, all_acknowledged, all_returned, ones_other, all_other, grant_refused, asked_more, FallsSo, all_gone}
use Rattle.world_laws.proofs.Asks.OfPaths.{IsCallOf, IsQuietAsk, IsHeardAsk, IsQuietDuty, quiet_asks, heard_asks, subflow_asks}
use Rattle.world_laws.proofs.Rounds.GrantAtOneDuty.{MayNotAsk, ask_isn't, asks_none}
use Rattle.world_laws.proofs.Rounds.EndsRefused.{Pays, Granting, needs, is_followed, is_owed, settled_done, data_sent, granted_done, refused_done, answered_done}

-- an acknowledgement by which the window reaches past this edge, or a return of some bytes
abbrev is_freeing : ℕ → Sending → SendCall → Bool
is_freeing edge b (SendCall.AckIn next window) = nat_lt edge (next + window)
is_freeing edge b (SendCall.Return path) = nat_lt 0 (count_by (is_held_by path) b.marks)
is_freeing edge b _ = false

-- what is asked of a send book, where it falls back
abbrev pub FallsAsk : SixBooks → Ask → Type 0
FallsAsk six (Ask.Send s call) = FallsSo (send_of s six) call
FallsAsk six _ = Unit {0}

-- ---- one side's book in a round

-- where the last grant was refused, and no acknowledgement came since, all was asked for, as long as no other path freed bytes
pub record SideAsks (path written : ℕ) (s : Side) (steps : List Note) (refused freed : Bool) (b : Sending) : Type 0 where
  pub ones : IsOnes path written b
  pub all : refused ≡ true → freed ≡ false → AskedForAll path s steps written b

module _ (path written : ℕ) (s : Side) where
  -- a call that is neither grant nor acknowledgement
  quiet_side : (steps : List Note) (refused freed : Bool) (b : Sending) (call : SendCall) → IsQuiet path call → FallsSo b call → SideAsks path written s steps refused freed b
      → SideAsks path written s steps refused freed (after_call b call)
  quiet_side steps refused freed b (SendCall.Write bytes) is falls h =
      record { ones = ones_after path written b h.ones (SendCall.Write bytes) tt; all = λ on alone. all_after path written b h.ones s steps (SendCall.Write bytes) tt falls (h.all on alone) }
  quiet_side steps refused freed b SendCall.Close is falls h =
      record { ones = ones_after path written b h.ones SendCall.Close tt; all = λ on alone. all_after path written b h.ones s steps SendCall.Close tt falls (h.all on alone) }
  quiet_side steps refused freed b (SendCall.Return asker) is falls h =
      record { ones = ones_after path written b h.ones (SendCall.Return asker) tt; all = λ on alone. all_after path written b h.ones s steps (SendCall.Return asker) is falls (h.all on alone) }
  quiet_side steps refused freed b (SendCall.Grant asker max standby) is falls h = absurd is
  quiet_side steps refused freed b (SendCall.AckIn next window) is falls h = absurd is
  quiet_side steps refused freed b SendCall.GoIdentity is falls h =
      record { ones = ones_after path written b h.ones SendCall.GoIdentity tt; all = λ on alone. all_after path written b h.ones s steps SendCall.GoIdentity tt falls (h.all on alone) }
  quiet_side steps refused freed b (SendCall.GoInfinite asker) is falls h = absurd is
  quiet_side steps refused freed b SendCall.Abort is falls h =
      record { ones = ones_after path written b h.ones SendCall.Abort tt; all = λ on alone. all_after path written b h.ones s steps SendCall.Abort tt falls (h.all on alone) }

  noted_side : (steps : List Note) (n : Note) (refused freed : Bool) (b : Sending) → asks_grant s n.ask ≡ false → SideAsks path written s steps refused freed b
      → SideAsks path written s (steps ++ n ∷ []) refused freed b
  noted_side steps n refused freed b isn't h = record { ones = h.ones; all = λ on alone. asked_more path s steps n written b isn't (h.all on alone) }

-- ---- an application

module _ (path written : ℕ) (steps : List Note) (refused freed : Bool) (a : AppState) (six : SixBooks) where
  pub own_a : (d : AppDuty) → a.side ≡ A → SideAsks path written A steps refused freed six.send_a → SideAsks path written A steps refused freed (after_ask (app_ask d a) six).send_a
  own_a AppDuty.FastClose is h = h
  own_a AppDuty.AbortSend is h =
      subst (λ s. SideAsks path written A steps refused freed (after_send_call s SendCall.Abort six).send_a) (sym is) (quiet_side path written A steps refused freed six.send_a SendCall.Abort tt tt h)
  own_a AppDuty.AbortReceive is h = h
  own_a AppDuty.Write is h =
      subst (λ s. SideAsks path written A steps refused freed (after_send_call s (SendCall.Write (offered a)) six).send_a) (sym is) (quiet_side path written A steps refused freed six.send_a (SendCall.Write (offered a)) tt tt h)
  own_a AppDuty.Close is h =
      subst (λ s. SideAsks path written A steps refused freed (after_send_call s SendCall.Close six).send_a) (sym is) (quiet_side path written A steps refused freed six.send_a SendCall.Close tt tt h)
  own_a AppDuty.Read is h = h
  own_a AppDuty.End is h = h

  pub own_b : (d : AppDuty) → a.side ≡ B → SideAsks path written B steps refused freed six.send_b → SideAsks path written B steps refused freed (after_ask (app_ask d a) six).send_b
  own_b AppDuty.FastClose is h = h
  own_b AppDuty.AbortSend is h =
      subst (λ s. SideAsks path written B steps refused freed (after_send_call s SendCall.Abort six).send_b) (sym is) (quiet_side path written B steps refused freed six.send_b SendCall.Abort tt tt h)
  own_b AppDuty.AbortReceive is h = h
  own_b AppDuty.Write is h =
      subst (λ s. SideAsks path written B steps refused freed (after_send_call s (SendCall.Write (offered a)) six).send_b) (sym is) (quiet_side path written B steps refused freed six.send_b (SendCall.Write (offered a)) tt tt h)
  own_b AppDuty.Close is h =
      subst (λ s. SideAsks path written B steps refused freed (after_send_call s SendCall.Close six).send_b) (sym is) (quiet_side path written B steps refused freed six.send_b SendCall.Close tt tt h)
  own_b AppDuty.Read is h = h
  own_b AppDuty.End is h = h

  pub other_a : (d : AppDuty) → a.side ≡ B → SideAsks path written A steps refused freed six.send_a → SideAsks path written A steps refused freed (after_ask (app_ask d a) six).send_a
  other_a AppDuty.AbortSend is h = subst (λ s. SideAsks path written A steps refused freed (after_send_call s SendCall.Abort six).send_a) (sym is) h
  other_a AppDuty.Write is h = subst (λ s. SideAsks path written A steps refused freed (after_send_call s (SendCall.Write (offered a)) six).send_a) (sym is) h
  other_a AppDuty.Close is h = subst (λ s. SideAsks path written A steps refused freed (after_send_call s SendCall.Close six).send_a) (sym is) h
  other_a _ is h = h

  pub other_b : (d : AppDuty) → a.side ≡ A → SideAsks path written B steps refused freed six.send_b → SideAsks path written B steps refused freed (after_ask (app_ask d a) six).send_b
  other_b AppDuty.AbortSend is h = subst (λ s. SideAsks path written B steps refused freed (after_send_call s SendCall.Abort six).send_b) (sym is) h
  other_b AppDuty.Write is h = subst (λ s. SideAsks path written B steps refused freed (after_send_call s (SendCall.Write (offered a)) six).send_b) (sym is) h
  other_b AppDuty.Close is h = subst (λ s. SideAsks path written B steps refused freed (after_send_call s SendCall.Close six).send_b) (sym is) h
  other_b _ is h = h

-- ---- both sides' books, and what is ahead on the path

pub record BothAsk (path written_a written_b : ℕ) (steps : List Note) (refused freed : Side → Bool) (six : SixBooks) : Type 0 where
  pub a : SideAsks path written_a A steps (refused A) (freed A) six.send_a
  pub b : SideAsks path written_b B steps (refused B) (freed B) six.send_b

-- one side's flag is another
abbrev with_flag : Side → Bool → (Side → Bool) → Side → Bool
with_flag A flag refused A = flag
with_flag A flag refused B = refused B
with_flag B flag refused A = refused A
with_flag B flag refused B = flag

own_flag : (s : Side) (flag : Bool) (refused : Side → Bool) → with_flag s flag refused s ≡ flag
own_flag = elim [ A ↦ λ flag refused. refl | B ↦ λ flag refused. refl ]

never_on : {X : Type 0} → false ≡ true → X
never_on is = absurd (false≢true is)

module _ (path written_a written_b : ℕ) (steps : List Note) (n : Note) (refused freed : Side → Bool) (six : SixBooks) (h : BothAsk path written_a written_b steps refused freed six) where
  abbrev Asks : (Side → Bool) → (Side → Bool) → SixBooks → Type 0
  Asks flags others books = BothAsk path written_a written_b (steps ++ n ∷ []) flags others books

  noted_a : asks_grant A n.ask ≡ false → SideAsks path written_a A (steps ++ n ∷ []) (refused A) (freed A) six.send_a
  noted_a isn't = noted_side path written_a A steps n (refused A) (freed A) six.send_a isn't h.a

  noted_b : asks_grant B n.ask ≡ false → SideAsks path written_b B (steps ++ n ∷ []) (refused B) (freed B) six.send_b
  noted_b isn't = noted_side path written_b B steps n (refused B) (freed B) six.send_b isn't h.b

  -- asks for no bytes
  module _ (isn't : (t : Side) → asks_grant t n.ask ≡ false) where
    -- an ask that is neither grant nor acknowledgement
    -- it is no fallback
    quiet_is : (s : Side) (call : SendCall) → IsQuietAsk path (Ask.Send s call) → IsQuiet path call
    quiet_is s SendCall.GoIdentity is = absurd is
    quiet_is s _ is = is

    quiet_falls : (s : Side) (b : Sending) (call : SendCall) → IsQuietAsk path (Ask.Send s call) → FallsSo b call
    quiet_falls s b SendCall.GoIdentity is = absurd is
    quiet_falls s b _ is = tt

    quiet_both : (ask : Ask) → IsQuietAsk path ask → Asks refused freed (after_ask ask six)
    quiet_both (Ask.Send A call) is = record {
      a = quiet_side path written_a A (steps ++ n ∷ []) (refused A) (freed A) six.send_a call (quiet_is A call is) (quiet_falls A six.send_a call is) (noted_a (isn't A));
      b = noted_b (isn't B);
    }
    quiet_both (Ask.Send B call) is = record {
      a = noted_a (isn't A);
      b = quiet_side path written_b B (steps ++ n ∷ []) (refused B) (freed B) six.send_b call (quiet_is B call is) (quiet_falls B six.send_b call is) (noted_b (isn't B));
    }
    quiet_both (Ask.Reassembly s call) is = record { a = noted_a (isn't A); b = noted_b (isn't B) }
    quiet_both (Ask.Control s call) is = record { a = noted_a (isn't A); b = noted_b (isn't B) }
    quiet_both (Ask.Local step) is = record { a = noted_a (isn't A); b = noted_b (isn't B) }

    -- a fallback
    identity_both : (s : Side) → FallsSo (send_of s six) SendCall.GoIdentity → Asks refused freed (after_ask (Ask.Send s SendCall.GoIdentity) six)
    identity_both A falls = record { a = quiet_side path written_a A (steps ++ n ∷ []) (refused A) (freed A) six.send_a SendCall.GoIdentity tt falls (noted_a (isn't A)); b = noted_b (isn't B) }
    identity_both B falls = record { a = noted_a (isn't A); b = quiet_side path written_b B (steps ++ n ∷ []) (refused B) (freed B) six.send_b SendCall.GoIdentity tt falls (noted_b (isn't B)) }

    -- what was heard at one side: an acknowledgement, whether a path goes on alone, or nothing for the send books
    lowered : (s : Side) → Asks (with_flag s false refused) freed six
    lowered A = record { a = record { ones = h.a.ones; all = λ on alone. never_on on }; b = noted_b (isn't B) }
    lowered B = record { a = noted_a (isn't A); b = record { ones = h.b.ones; all = λ on alone. never_on on } }

    heard_call : (s : Side) (call : SendCall) → IsHeardAsk path s (Ask.Send s call) → Asks (with_flag s false refused) freed (after_send_call s call six)
    heard_call A (SendCall.AckIn next window) is = record {
      a = record { ones = ones_after path written_a six.send_a h.a.ones (SendCall.AckIn next window) tt; all = λ on alone. never_on on };
      b = noted_b (isn't B);
    }
    heard_call B (SendCall.AckIn next window) is = record {
      a = noted_a (isn't A);
      b = record { ones = ones_after path written_b six.send_b h.b.ones (SendCall.AckIn next window) tt; all = λ on alone. never_on on };
    }
    heard_call s (SendCall.Write bytes) is = absurd is
    heard_call s SendCall.Close is = absurd is
    heard_call s (SendCall.Grant asker max standby) is = absurd is
    heard_call s (SendCall.Return asker) is = absurd is
    heard_call s SendCall.GoIdentity is = absurd is
    heard_call A (SendCall.GoInfinite asker) is = record {
      a = record { ones = ones_after path written_a six.send_a h.a.ones (SendCall.GoInfinite asker) tt; all = λ on alone. never_on on };
      b = noted_b (isn't B);
    }
    heard_call B (SendCall.GoInfinite asker) is = record {
      a = noted_a (isn't A);
      b = record { ones = ones_after path written_b six.send_b h.b.ones (SendCall.GoInfinite asker) tt; all = λ on alone. never_on on };
    }
    heard_call s SendCall.Abort is = absurd is

    heard_both : (s : Side) (ask : Ask) → IsHeardAsk path s ask → Asks (with_flag s false refused) freed (after_ask ask six)
    heard_both A (Ask.Send A call) is = heard_call A call is
    heard_both B (Ask.Send B call) is = heard_call B call is
    heard_both A (Ask.Send B call) is = (elim call as (λ call. IsHeardAsk path A (Ask.Send B call) → Asks (with_flag A false refused) freed (after_send_call B call six))
        [ SendCall.AckIn next window ↦ λ is. (let never : B ≡ A = is in cc) | SendCall.GoInfinite asker ↦ λ is. (let never : B ≡ A = is.0 in cc) | _ ↦ λ is. absurd is ]) is
    heard_both B (Ask.Send A call) is = (elim call as (λ call. IsHeardAsk path B (Ask.Send A call) → Asks (with_flag B false refused) freed (after_send_call A call six))
        [ SendCall.AckIn next window ↦ λ is. (let never : A ≡ B = is in cc) | SendCall.GoInfinite asker ↦ λ is. (let never : A ≡ B = is.0 in cc) | _ ↦ λ is. absurd is ]) is
    heard_both s (Ask.Reassembly t call) is = elim s as (λ s. Asks (with_flag s false refused) freed (after_ask (Ask.Reassembly t call) six))
        [ A ↦ record { a = (lowered A).a; b = (lowered A).b } | B ↦ record { a = (lowered B).a; b = (lowered B).b } ]
    heard_both s (Ask.Control t call) is = elim s as (λ s. Asks (with_flag s false refused) freed (after_ask (Ask.Control t call) six))
        [ A ↦ record { a = (lowered A).a; b = (lowered A).b } | B ↦ record { a = (lowered B).a; b = (lowered B).b } ]
    heard_both s (Ask.Local step) is = lowered s

  -- A grant: what other paths freed before is of no account any more.
  granted_both : (s : Side) (max : ℕ) (standby : Bool) → n.ask ≡ Ask.Send s (SendCall.Grant path max standby)
      → Asks (with_flag s false refused) (with_flag s false freed) (after_ask (Ask.Send s (SendCall.Grant path max standby)) six)
  granted_both A max standby asks = record {
    a = record { ones = ones_after path written_a six.send_a h.a.ones (SendCall.Grant path max standby) refl; all = λ on alone. never_on on };
    b = noted_b (ap (asks_grant B) asks);
  }
  granted_both B max standby asks = record {
    a = noted_a (ap (asks_grant A) asks);
    b = record { ones = ones_after path written_b six.send_b h.b.ones (SendCall.Grant path max standby) refl; all = λ on alone. never_on on };
  }

  -- and a refusal
  refused_both : (s : Side) (max : ℕ) (standby : Bool) → n.ask ≡ Ask.Send s (SendCall.Grant path max standby) → grant_in (reply_of six (Ask.Send s (SendCall.Grant path max standby))) ≡ None
      → Asks (with_flag s true refused) (with_flag s false freed) (after_ask (Ask.Send s (SendCall.Grant path max standby)) six)
  refused_both A max standby asks none = record {
    a = record {
      ones = ones_after path written_a six.send_a h.a.ones (SendCall.Grant path max standby) refl;
      all = λ on alone. grant_refused path written_a six.send_a h.a.ones A steps n max standby (λ before. ap (λ x. if asks_grant A x then is_standby x else before) asks) none;
    };
    b = noted_b (ap (asks_grant B) asks);
  }
  refused_both B max standby asks none = record {
    a = noted_a (ap (asks_grant A) asks);
    b = record {
      ones = ones_after path written_b six.send_b h.b.ones (SendCall.Grant path max standby) refl;
      all = λ on alone. grant_refused path written_b six.send_b h.b.ones B steps n max standby (λ before. ap (λ x. if asks_grant B x then is_standby x else before) asks) none;
    };
  }

-- ---- a step of another path

-- whether bytes were freed then
abbrev pub freed_then : (Side → ℕ) → Ask → Reply → (Side → Bool) → Side → Bool
freed_then edges ask reply freed s = freed s || frees_bytes s (edges s) ask reply

freed_before : (b c : Bool) → b || c ≡ false → b ≡ false
freed_before = elim [ true ↦ λ c is. is | false ↦ λ c is. refl ]

freed_after : (b c : Bool) → b || c ≡ false → c ≡ false
freed_after = elim [ true ↦ λ c is. absurd (false≢true (sym is)) | false ↦ λ c is. is ]

same_freeing : (s : Side) (edge : ℕ) (b : Sending) (call : SendCall) → frees_bytes s edge (Ask.Send s call) (Reply.Send (reply_to b call)) ≡ is_freeing edge b call
same_freeing A edge b (SendCall.AckIn next window) = refl
same_freeing A edge b (SendCall.Return who) = refl
same_freeing A edge b (SendCall.Grant who max standby) = refl
same_freeing A edge b (SendCall.Write bytes) = refl
same_freeing A edge b SendCall.Close = refl
same_freeing A edge b SendCall.GoIdentity = refl
same_freeing A edge b (SendCall.GoInfinite who) = refl
same_freeing A edge b SendCall.Abort = refl
same_freeing B edge b (SendCall.AckIn next window) = refl
same_freeing B edge b (SendCall.Return who) = refl
same_freeing B edge b (SendCall.Grant who max standby) = refl
same_freeing B edge b (SendCall.Write bytes) = refl
same_freeing B edge b SendCall.Close = refl
same_freeing B edge b SendCall.GoIdentity = refl
same_freeing B edge b (SendCall.GoInfinite who) = refl
same_freeing B edge b SendCall.Abort = refl

module _ (path written edge : ℕ) (s : Side) (steps : List Note) (refused freed : Bool) (b : Sending) (h : SideAsks path written s steps refused freed b) where
  -- the own book stays
  stays_side : (more : Bool) → SideAsks path written s steps refused (freed || more) b
  stays_side more = record { ones = h.ones; all = λ on alone. h.all on (freed_before freed more alone) }

  freeing_call : (asker : ℕ) (t : Side) (call : SendCall) → (asker ≡ path → ⊥) → IsCallOf asker (Ask.Send t call) → FallsSo b call → edge ≤ b.edge
      → SideAsks path written s steps refused (freed || is_freeing edge b call) (after_call b call)
  freeing_call asker t (SendCall.Grant who max standby) apart is falls low =
      let other : who ≡ path → ⊥ = λ own. apart (sym is ∙ own) in
      record { ones = ones_other path written b h.ones who max standby other; all = λ on alone. all_other path written b h.ones who max standby other s steps (h.all on (freed_before freed _ alone)) }
  freeing_call asker t (SendCall.AckIn next window) apart is falls low = record {
    ones = ones_after path written b h.ones (SendCall.AckIn next window) tt;
    all = λ on alone. let least = ltb-false edge (next + window) (freed_after freed (nat_lt edge (next + window)) alone) in
        all_acknowledged path written b h.ones s steps next window (omega (arith, least, low)) (h.all on (freed_before freed (nat_lt edge (next + window)) alone));
  }
  freeing_call asker t (SendCall.Return who) apart is falls low = record {
    ones = ones_after path written b h.ones (SendCall.Return who) tt;
    all = λ on alone. let held = count_by (is_held_by who) b.marks in let none = ltb-false 0 held (freed_after freed (nat_lt 0 held) alone) in
        all_returned path written b h.ones s steps who (omega (arith, none)) (h.all on (freed_before freed (nat_lt 0 held) alone));
  }
  freeing_call asker t (SendCall.Write bytes) apart is falls low = absurd is
  freeing_call asker t SendCall.Close apart is falls low = absurd is
  freeing_call asker t SendCall.GoIdentity apart is falls low =
      record { ones = ones_after path written b h.ones SendCall.GoIdentity tt; all = λ on alone. all_after path written b h.ones s steps SendCall.GoIdentity tt falls (h.all on (freed_before freed _ alone)) }
  freeing_call asker t (SendCall.GoInfinite who) apart is falls low = record {
    ones = ones_after path written b h.ones (SendCall.GoInfinite who) tt;
    all = λ on alone. all_gone path written b h.ones s steps who (h.all on (freed_before freed _ alone));
  }
  freeing_call asker t SendCall.Abort apart is falls low =
      record { ones = ones_after path written b h.ones SendCall.Abort tt; all = λ on alone. all_after path written b h.ones s steps SendCall.Abort tt falls (h.all on (freed_before freed _ alone)) }

  other_call : (asker : ℕ) (call : SendCall) → (asker ≡ path → ⊥) → IsCallOf asker (Ask.Send s call) → FallsSo b call → edge ≤ b.edge
      → SideAsks path written s steps refused (freed || frees_bytes s edge (Ask.Send s call) (Reply.Send (reply_to b call))) (after_call b call)
  other_call asker call apart is falls low =
      subst (λ c. SideAsks path written s steps refused (freed || c) (after_call b call)) (sym (same_freeing s edge b call)) (freeing_call asker s call apart is falls low)

module _ (path written_a written_b : ℕ) (edges : Side → ℕ) (steps : List Note) (refused freed : Side → Bool) (six : SixBooks) (h : BothAsk path written_a written_b steps refused freed six)
    (low : (s : Side) → edges s ≤ (send_of s six).edge) where
  pub other_both : (asker : ℕ) (ask : Ask) → (asker ≡ path → ⊥) → IsCallOf asker ask → FallsAsk six ask
      → BothAsk path written_a written_b steps refused (freed_then edges ask (reply_of six ask) freed) (after_ask ask six)
  other_both asker (Ask.Send A call) apart is falls = record {
    a = other_call path written_a (edges A) A steps (refused A) (freed A) six.send_a h.a asker call apart is falls (low A);
    b = stays_side path written_b (edges B) B steps (refused B) (freed B) six.send_b h.b _;
  }
  other_both asker (Ask.Send B call) apart is falls = record {
    a = stays_side path written_a (edges A) A steps (refused A) (freed A) six.send_a h.a _;
    b = other_call path written_b (edges B) B steps (refused B) (freed B) six.send_b h.b asker call apart is falls (low B);
  }
  other_both asker (Ask.Reassembly t call) apart is falls = record {
    a = stays_side path written_a (edges A) A steps (refused A) (freed A) six.send_a h.a _;
    b = stays_side path written_b (edges B) B steps (refused B) (freed B) six.send_b h.b _;
  }
  other_both asker (Ask.Control t call) apart is falls = record {
    a = stays_side path written_a (edges A) A steps (refused A) (freed A) six.send_a h.a _;
    b = stays_side path written_b (edges B) B steps (refused B) (freed B) six.send_b h.b _;
  }
  other_both asker (Ask.Local step) apart is falls = record {
    a = stays_side path written_a (edges A) A steps (refused A) (freed A) six.send_a h.a _;
    b = stays_side path written_b (edges B) B steps (refused B) (freed B) six.send_b h.b _;
  }

-- ---- a step of the path

module _ {C : Type 0} (k : Codec C) (p : PathState C) (written_a written_b : ℕ) (steps : List Note) (n : Note) (refused freed : Side → Bool) (six : SixBooks)
    (h : BothAsk (path_of p) written_a written_b steps refused freed six) where
  -- what is ahead on the path then, and both books
  pub record AskThen (q : PathState C) : Type 0 where
    pub flags : Side → Bool
    -- what other paths freed since the last grant
    pub others : Side → Bool
    pub granting : Granting q flags
    pub both : BothAsk (path_of p) written_a written_b (steps ++ n ∷ []) flags others (after_ask n.ask six)
    pub before : (t : Side) → others t ≡ true → (freed t ≡ true) × (asks_grant t n.ask ≡ false)

  abbrev Here : List Duty → PathState C
  Here ds = with_agenda ds p

  asked_is : (x : Ask) (flags others : Side → Bool) → n.ask ≡ x → BothAsk (path_of p) written_a written_b (steps ++ n ∷ []) flags others (after_ask x six)
      → BothAsk (path_of p) written_a written_b (steps ++ n ∷ []) flags others (after_ask n.ask six)
  asked_is x flags others is both = subst (λ y. BothAsk (path_of p) written_a written_b (steps ++ n ∷ []) flags others (after_ask y six)) (sym is) both

  asks_nothing : (d : Duty) (ds : List Duty) → MayNotAsk d → n.ask ≡ ask_for k d (Here (d ∷ ds)) → (t : Side) → asks_grant t n.ask ≡ false
  asks_nothing d ds may is t = ap (asks_grant t) is ∙ ask_isn't t (ask_for k d (Here (d ∷ ds))) (asks_none k (Here (d ∷ ds)) d may)

  quiet_duty : (d : Duty) (ds : List Duty) → IsQuietDuty d → MayNotAsk d → n.ask ≡ ask_for k d (Here (d ∷ ds)) → is_followed (d ∷ ds) ≡ true
      → ((t : Side) → Pays (Here (d ∷ ds)) (d ∷ ds) refused t) → AskThen (answered k d (reply_of six (ask_for k d (Here (d ∷ ds)))) (Here (d ∷ ds)))
  quiet_duty d ds quiet may is f each = record {
    flags = refused;
    others = freed;
    before = λ t on. (on, asks_nothing d ds may is t);
    granting = answered_done k (reply_of six (ask_for k d (Here (d ∷ ds)))) p refused d ds may f each;
    both = asked_is (ask_for k d (Here (d ∷ ds))) refused freed is
        (quiet_both (path_of p) written_a written_b steps n refused freed six h (asks_nothing d ds may is) (ask_for k d (Here (d ∷ ds))) (quiet_asks k (Here (d ∷ ds)) d quiet));
  }

  -- the flag of a side that has what it needs ahead is of no account
  lower_each : (s : Side) (xs : List Duty) (flag : Bool) → is_owed s xs ≡ true → ((t : Side) → Pays (Here xs) xs refused t) → (t : Side) → Pays (Here xs) xs (with_flag s flag refused) t
  lower_each A xs flag owed each A = inl owed
  lower_each A xs flag owed each B = each B
  lower_each B xs flag owed each A = each A
  lower_each B xs flag owed each B = inl owed

  heard_duty : (d : Duty) (s : Side) (ds : List Duty) → IsHeardAsk (path_of p) s (ask_for k d (Here (d ∷ ds))) → MayNotAsk d → is_owed s (d ∷ ds) ≡ true → n.ask ≡ ask_for k d (Here (d ∷ ds))
      → is_followed (d ∷ ds) ≡ true → ((t : Side) → Pays (Here (d ∷ ds)) (d ∷ ds) refused t) → AskThen (answered k d (reply_of six (ask_for k d (Here (d ∷ ds)))) (Here (d ∷ ds)))
  heard_duty d s ds heard may owed is f each = record {
    flags = with_flag s false refused;
    others = freed;
    before = λ t on. (on, asks_nothing d ds may is t);
    granting = answered_done k (reply_of six (ask_for k d (Here (d ∷ ds)))) p (with_flag s false refused) d ds may f (lower_each s (d ∷ ds) false owed each);
    both = asked_is (ask_for k d (Here (d ∷ ds))) (with_flag s false refused) freed is
        (heard_both (path_of p) written_a written_b steps n refused freed six h (asks_nothing d ds may is) s (ask_for k d (Here (d ∷ ds))) heard);
  }

  first_needs : (d : Duty) (ds : List Duty) → is_followed (d ∷ ds) ≡ true → needs d ds ≡ true
  first_needs d ds f = (and_parts (needs d ds) (is_followed ds) f).0

  own_data : (s : Side) (ds : List Duty) → is_owed s (Duty.Step (StepDuty.Data s) ∷ ds) ≡ true
  own_data = elim [ A ↦ λ ds. refl | B ↦ λ ds. refl ]

  other_each : (s : Side) (xs : List Duty) (flag : Bool) → ((t : Side) → Pays (Here xs) xs refused t) → (t : Side) → (t ≡ s → ⊥) → Pays (Here xs) xs (with_flag s flag refused) t
  other_each A xs flag each A apart = absurd (apart refl)
  other_each A xs flag each B apart = each B
  other_each B xs flag each A apart = each A
  other_each B xs flag each B apart = absurd (apart refl)

  since_grant : (s : Side) → n.ask ≡ grant_ask s p → (t : Side) → with_flag s false freed t ≡ true → (freed t ≡ true) × (asks_grant t n.ask ≡ false)
  since_grant A is A on = never_on on
  since_grant A is B on = (on, ap (asks_grant B) is)
  since_grant B is A on = (on, ap (asks_grant A) is)
  since_grant B is B on = never_on on

  grant_duty : (s : Side) (ds : List Duty) → first_unsent (end_at s p) ≡ None → n.ask ≡ grant_ask s p → is_followed (Duty.Step (StepDuty.Data s) ∷ ds) ≡ true → ((t : Side) → Pays (Here (Duty.Step (StepDuty.Data s) ∷ ds)) (Duty.Step (StepDuty.Data s) ∷ ds) refused t)
      → (o : Option Grant) → grant_in (reply_of six (grant_ask s p)) ≡ o → AskThen (answered_grant s o (reply_of six (grant_ask s p)) (Here (Duty.Step (StepDuty.Data s) ∷ ds)))
  grant_duty s ds unsent is f each (Some grant) found = record {
    flags = with_flag s false refused;
    others = with_flag s false freed;
    before = since_grant s is;
    granting = granted_done k (reply_of six (grant_ask s p)) p (with_flag s false refused) s ds grant f (lower_each s (Duty.Step (StepDuty.Data s) ∷ ds) false (own_data s ds) each);
    both = asked_is (grant_ask s p) (with_flag s false refused) (with_flag s false freed) is (granted_both (path_of p) written_a written_b steps n refused freed six h s _ _ is);
  }
  grant_duty s ds unsent is f each None found = record {
    flags = with_flag s true refused;
    others = with_flag s false freed;
    before = since_grant s is;
    granting = refused_done k (reply_of six (grant_ask s p)) p (with_flag s true refused) s ds unsent (own_flag s true refused) f (other_each s (Duty.Step (StepDuty.Data s) ∷ ds) true each);
    both = asked_is (grant_ask s p) (with_flag s true refused) (with_flag s false freed) is (refused_both (path_of p) written_a written_b steps n refused freed six h s _ _ is found);
  }

  data_duty : (s : Side) (ds : List Duty) → is_followed (Duty.Step (StepDuty.Data s) ∷ ds) ≡ true → ((t : Side) → Pays (Here (Duty.Step (StepDuty.Data s) ∷ ds)) (Duty.Step (StepDuty.Data s) ∷ ds) refused t)
      → (o : Option Record) → first_unsent (end_at s p) ≡ o → n.ask ≡ data_ask k s o (Here (Duty.Step (StepDuty.Data s) ∷ ds)) → AskThen (answered_data k s o (reply_of six (data_ask k s o (Here (Duty.Step (StepDuty.Data s) ∷ ds)))) (Here (Duty.Step (StepDuty.Data s) ∷ ds)))
  data_duty s ds f each (Some u) unsent is = record {
    flags = refused;
    others = freed;
    before = λ t on. (on, ap (asks_grant t) is ∙ ask_isn't t (data_ask k s (Some u) (Here (Duty.Step (StepDuty.Data s) ∷ ds))) tt);
    granting = data_sent k (reply_of six (data_ask k s (Some u) (Here (Duty.Step (StepDuty.Data s) ∷ ds)))) p refused s ds u f each;
    both = asked_is (data_ask k s (Some u) (Here (Duty.Step (StepDuty.Data s) ∷ ds))) refused freed is
        (quiet_both (path_of p) written_a written_b steps n refused freed six h
        (λ t. ap (asks_grant t) is ∙ ask_isn't t (data_ask k s (Some u) (Here (Duty.Step (StepDuty.Data s) ∷ ds))) tt) (data_ask k s (Some u) (Here (Duty.Step (StepDuty.Data s) ∷ ds))) tt);
  }
  data_duty s ds f each None unsent is = grant_duty s ds unsent is f each (grant_in (reply_of six (grant_ask s p))) refl

  duty_asks : (d : Duty) (ds : List Duty) → FallsAsk six (ask_for k d (Here (d ∷ ds))) → n.ask ≡ ask_for k d (Here (d ∷ ds)) → is_followed (d ∷ ds) ≡ true → ((t : Side) → Pays (Here (d ∷ ds)) (d ∷ ds) refused t)
      → AskThen (answered k d (reply_of six (ask_for k d (Here (d ∷ ds)))) (Here (d ∷ ds)))
  duty_asks (Duty.Step (StepDuty.Data s)) ds falls is f each = data_duty s ds f each (first_unsent (end_at s p)) refl is
  duty_asks (Duty.Step (StepDuty.Heard s index)) ds falls is f each =
      heard_duty (Duty.Step (StepDuty.Heard s index)) s ds (heard_asks k (Here (Duty.Step (StepDuty.Heard s index) ∷ ds)) s (item_of index (end_at s p))) tt
      (and_parts (is_owed s ds) (not (is_owed (peer s) ds)) (first_needs (Duty.Step (StepDuty.Heard s index)) ds f)).0 is f each
  duty_asks (Duty.Send (SendDuty.Update s)) ds falls is f each = quiet_duty (Duty.Send (SendDuty.Update s)) ds tt tt is f each
  duty_asks (Duty.Silent (SilentDuty.Timer s)) ds falls is f each = quiet_duty (Duty.Silent (SilentDuty.Timer s)) ds tt tt is f each
  duty_asks (Duty.Ask (AskDuty.SynHeard s)) ds falls is f each = heard_duty (Duty.Ask (AskDuty.SynHeard s)) s ds refl tt (first_needs (Duty.Ask (AskDuty.SynHeard s)) ds f) is f each
  duty_asks (Duty.Ask (AskDuty.SynAnswered s)) ds falls is f each = heard_duty (Duty.Ask (AskDuty.SynAnswered s)) s ds refl tt (first_needs (Duty.Ask (AskDuty.SynAnswered s)) ds f) is f each
  duty_asks (Duty.Ask (AskDuty.SubflowAck s)) ds falls is f each = heard_duty (Duty.Ask (AskDuty.SubflowAck s)) s ds (subflow_asks k (Here (Duty.Ask (AskDuty.SubflowAck s) ∷ ds)) s) tt (first_needs (Duty.Ask (AskDuty.SubflowAck s)) ds f) is f each
  duty_asks (Duty.Ask (AskDuty.GoIdentity s)) ds falls is f each = record {
    flags = refused;
    others = freed;
    before = λ t on. (on, asks_nothing (Duty.Ask (AskDuty.GoIdentity s)) ds tt is t);
    granting = answered_done k (reply_of six (identity_ask s)) p refused (Duty.Ask (AskDuty.GoIdentity s)) ds tt f each;
    both = asked_is (identity_ask s) refused freed is
        (identity_both (path_of p) written_a written_b steps n refused freed six h (asks_nothing (Duty.Ask (AskDuty.GoIdentity s)) ds tt is) s falls);
  }
  duty_asks d ds falls is f each = quiet_duty d ds tt tt is f each

  here_asks : (d : Duty) (ds : List Duty) → FallsAsk six (ask_for k d (Here (d ∷ ds))) → n.ask ≡ ask_for k d (Here (d ∷ ds)) → Granting (Here (d ∷ ds)) refused → AskThen (takes k (reply_of six (ask_for k d (Here (d ∷ ds)))) (Here (d ∷ ds)))
  here_asks d ds falls is g =
      let q : PathState C = answered k d (reply_of six (ask_for k d (Here (d ∷ ds)))) (Here (d ∷ ds)) in
      let t : AskThen q = duty_asks d ds falls is g.followed g.each in
      record { flags = t.flags; others = t.others; granting = settled_done q.agenda q t.flags t.granting.followed t.granting.each; both = t.both; before = t.before }

  pub path_step : (d : Duty) (ds : List Duty) → p.agenda ≡ d ∷ ds → FallsAsk six (ask_for k d p) → n.ask ≡ ask_for k d p → Granting p refused → AskThen (takes k (reply_of six (ask_for k d p)) p)
  path_step d ds agenda =
      let same : p ≡ Here (d ∷ ds) = ap (λ xs. with_agenda xs p) agenda in
      subst (λ q. FallsAsk six (ask_for k d q) → n.ask ≡ ask_for k d q → Granting q refused → AskThen (takes k (reply_of six (ask_for k d q)) q)) (sym same) (here_asks d ds)
