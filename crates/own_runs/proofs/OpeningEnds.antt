-- How an end stands before both SYNs are acknowledged, once they are, and once it is dead; and what keeps it so.
use Rattle.std.proofs.Common.{◌≡◌, refl, sym, ap, ◌∙◌, subst, ℕ, ◌&&◌, ◌||◌, not, inl, inr, ◌⊎◌, Bool, true, false, if◌then◌else◌, Option, None, is_some, List, [], ◌∷◌, map}
use Rattle.std.specs.Option.{IfSome}
use Rattle.std.proofs.lemmas.Bool.{both_ways, false≢true}
use Rattle.path_core.specs.End.{PathEnd, died}
use Rattle.path_core.specs.MpJoin.{is_listening}
use Rattle.path_core.specs.Standing.{is_connected}
use Rattle.loss_recovery.specs.Timers.{timer_settled}
use Rattle.loss_recovery.specs.declared.timers.Timing.{Timing}
use Rattle.subflow_send.specs.Records.{Record, SendState}
use Rattle.subflow_send.specs.Rules.{expired_records, fin_sent, first_sent, first_unsent_sent, is_fin, is_unsent}
use Rattle.subflow_send.specs.Sendings.{sent_again}
use Rattle.subflow_tcp.specs.Dues.{only_reset}
use Rattle.subflow_tcp.specs.Emitting.{is_syn}
use Rattle.subflow_tcp.specs.State.{EndState}
use Rattle.subflow_tcp.specs.States.{after_fin_passed, after_finish, is_closed_to_segments, is_dead, is_waiting, may_finish}
use Rattle.subflow_tcp.specs.declared.dues.Due.{Due as Dues}
use Rattle.subflow_tcp.specs.declared.handshake.State.{State as EndPhase}
use Rattle.subflow_tcp.specs.declared.segments.Outgoing.{Outgoing}
use Rattle.world_laws.proofs.Keys.WhatWakes.{is_up}
use Rattle.own_runs.proofs.Learning.{is_unborn}

-- ---- states

-- an end that listens, or answered a SYN
abbrev pub is_passive : EndPhase → Bool
is_passive EndPhase.Listen = true
is_passive EndPhase.SynReceived = true
is_passive _ = false

-- not both SYNs are acknowledged
abbrev pub is_before : EndPhase → Bool
is_before EndPhase.Waiting = true
is_before EndPhase.Listen = true
is_before EndPhase.SynSent = true
is_before EndPhase.SynReceived = true
is_before _ = false

-- both are
pub record Met (state : EndPhase) : Type 0 where
  pub born : is_unborn state ≡ false
  pub active : is_passive state ≡ false
  pub living : is_dead state ≡ false
  pub speaks : is_listening state ≡ false
  pub opened : is_closed_to_segments state ≡ false
  pub past : is_before state ≡ false

pub met_so : (state : EndPhase) → is_connected state ≡ true → Met state
met_so EndPhase.Waiting is = absurd (false≢true is)
met_so EndPhase.Listen is = absurd (false≢true is)
met_so EndPhase.SynSent is = absurd (false≢true is)
met_so EndPhase.SynReceived is = absurd (false≢true is)
met_so EndPhase.Dead is = absurd (false≢true is)
met_so _ is = record { born = refl; active = refl; living = refl; speaks = refl; opened = refl; past = refl }

-- an end that isn't closed is before that, or behind it
pub open_cases : (state : EndPhase) → is_closed_to_segments state ≡ false → (is_before state ≡ true) ⊎ (is_connected state ≡ true)
open_cases EndPhase.Waiting is = inl refl
open_cases EndPhase.Listen is = inl refl
open_cases EndPhase.SynSent is = inl refl
open_cases EndPhase.SynReceived is = inl refl
open_cases EndPhase.Dead is = absurd (false≢true (sym is))
open_cases _ is = inr refl

pub finishing_met : (state : EndPhase) → may_finish state ≡ true → is_connected state ≡ true
finishing_met EndPhase.Established is = refl
finishing_met EndPhase.CloseWait is = refl
finishing_met EndPhase.Waiting is = absurd (false≢true is)
finishing_met _ is = absurd (false≢true is)

pub finished_met : (state : EndPhase) → may_finish state ≡ true → is_connected (after_finish state) ≡ true
finished_met EndPhase.Established is = refl
finished_met EndPhase.CloseWait is = refl
finished_met EndPhase.Waiting is = absurd (false≢true is)
finished_met _ is = absurd (false≢true is)

passed_cases : (state : EndPhase) → (after_fin_passed state ≡ state) ⊎ ((is_connected state ≡ true) × (is_connected (after_fin_passed state) ≡ true))
passed_cases EndPhase.Established = inr (refl, refl)
passed_cases EndPhase.FinWait1 = inr (refl, refl)
passed_cases EndPhase.FinWait2 = inr (refl, refl)
passed_cases EndPhase.Waiting = inl refl
passed_cases _ = inl refl

waiting_is : (state : EndPhase) → is_waiting state ≡ true → state ≡ EndPhase.Waiting
waiting_is EndPhase.Waiting is = refl
waiting_is _ is = absurd (false≢true is)

pub listening_is : (state : EndPhase) → is_listening state ≡ true → state ≡ EndPhase.Listen
listening_is EndPhase.Listen is = refl
listening_is EndPhase.Waiting is = absurd (false≢true is)
listening_is _ is = absurd (false≢true is)

-- ---- records

-- the SYN alone
abbrev pub OneSyn : List Record → Type 0
OneSyn [] = ⊥
OneSyn (r ∷ []) = is_syn r.kind ≡ true
OneSyn (r ∷ x ∷ rs) = ⊥

pub unsent_syn : (now : ℕ) (rs : List Record) → OneSyn rs → OneSyn (first_unsent_sent now rs)
unsent_syn now [] h = absurd h
unsent_syn now (r ∷ x ∷ rs) h = absurd h
unsent_syn now (r ∷ []) h = by (is_unsent r)
  where
    by : (b : Bool) → OneSyn (if b then record r { sending = sent_again now r.sending } ∷ [] else r ∷ [])
    by true = h
    by false = h

pub first_syn : (now : ℕ) (rs : List Record) → OneSyn rs → OneSyn (first_sent now rs)
first_syn now [] h = absurd h
first_syn now (r ∷ []) h = h
first_syn now (r ∷ x ∷ rs) h = absurd h

expired_syn : (rs : List Record) → OneSyn rs → OneSyn (expired_records rs)
expired_syn [] h = absurd h
expired_syn (r ∷ []) h = h
expired_syn (r ∷ x ∷ rs) h = absurd h

pub fin_syn : (now : ℕ) (rs : List Record) → OneSyn rs → OneSyn (map (fin_sent now) rs)
fin_syn now [] h = absurd h
fin_syn now (r ∷ x ∷ rs) h = absurd h
fin_syn now (r ∷ []) h = by (is_fin r.kind)
  where
    by : (b : Bool) → is_syn (if b then record r { sending = sent_again now r.sending } else r).kind ≡ true
    by true = h
    by false = h

-- ---- what stands at an end

-- An acknowledgement is owed where both SYNs are acknowledged, and no record again nor a timer where the end is closed; before that the SYN is
-- all that it has.
pub record Still (state : EndPhase) (due : Dues) (timer : Option ℕ) (records : List Record) : Type 0 where
  pub acks : due.ack ≡ true → is_connected state ≡ true
  pub again : due.first ≡ true → is_closed_to_segments state ≡ false
  pub timed : is_some timer ≡ true → is_closed_to_segments state ≡ false
  pub syns : is_before state ≡ true → OneSyn records

abbrev pub TcpStill : EndState → Type 0
TcpStill s = Still s.state s.due s.timing.timer s.send.records

-- where both SYNs are acknowledged
pub met_still : (state : EndPhase) (due : Dues) (timer : Option ℕ) (records : List Record) → is_connected state ≡ true → Still state due timer records
met_still state due timer records is =
    let met = met_so state is in record { acks = λ owed. is; again = λ owed. met.opened; timed = λ runs. met.opened; syns = λ before. absurd (both_ways (is_before state) met.past before) }

pub dead_still : (reset : Bool) (records : List Record) → Still EndPhase.Dead (only_reset reset) None records
dead_still reset records =
    record { acks = λ is. absurd (false≢true is); again = λ is. absurd (false≢true is); timed = λ is. absurd (false≢true is); syns = λ is. absurd (false≢true is) }

pub up_open : (s : EndState) → TcpStill s → is_up s ≡ true → is_closed_to_segments s.state ≡ false
up_open s h up = by (is_closed_to_segments s.state) refl up
  where
    by : (b : Bool) → is_closed_to_segments s.state ≡ b → not b || is_some s.timing.timer ≡ true → is_closed_to_segments s.state ≡ false
    by false closed up = closed
    by true closed up = h.timed up

-- ---- what a step makes of an end

pub record Parts : Type 0 where
  pub state : EndPhase
  pub send : SendState
  pub due : Dues
  pub timer : Option ℕ
  pub answer : Option Outgoing

abbrev pub parts_of : PathEnd → Parts
parts_of e = record { state = e.tcp.state; send = e.tcp.send; due = e.tcp.due; timer = e.tcp.timing.timer; answer = e.treated.answer }

abbrev pub PartsStill : Parts → Type 0
PartsStill x = Still x.state x.due x.timer x.send.records

abbrev pub IsReset : Outgoing → Type 0
IsReset o = (o.rst ≡ true) × (o.syn ≡ false)

-- U: the peer's SYN was sent, or T: its answer
pub record Goes (U T : Type 0) (x y : Parts) : Type 0 where
  pub unborn : is_unborn y.state ≡ true → (is_unborn x.state ≡ true) × (y.send.nxt ≡ x.send.nxt)
  pub connected : is_connected y.state ≡ true → (is_connected x.state ≡ true) ⊎ T
  pub passive : is_passive y.state ≡ true → is_passive x.state ≡ true
  pub dead : is_dead x.state ≡ true → is_dead y.state ≡ true
  pub listens : is_listening y.state ≡ true → is_listening x.state ≡ true
  pub opened : is_closed_to_segments y.state ≡ false → (is_closed_to_segments x.state ≡ false) ⊎ ((is_unborn y.state ≡ true) ⊎ U)
  pub still : PartsStill x → PartsStill y
  pub answer : IfSome x.answer IsReset → IfSome y.answer IsReset

module _ (U T : Type 0) where
  abbrev pub EndGoes : PathEnd → PathEnd → Type 0
  EndGoes e f = Goes U T (parts_of e) (parts_of f)

  -- the state stays
  pub state_goes : (x y : Parts) → y.state ≡ x.state → y.send.nxt ≡ x.send.nxt → y.answer ≡ x.answer → (PartsStill x → PartsStill y) → Goes U T x y
  state_goes x y state next answer still = record {
    unborn = λ is. (ap is_unborn (sym state) ∙ is, next);
    connected = λ is. inl (ap is_connected (sym state) ∙ is);
    passive = λ is. ap is_passive (sym state) ∙ is;
    dead = λ is. ap is_dead state ∙ is;
    listens = λ is. ap is_listening (sym state) ∙ is;
    opened = λ is. inl (ap is_closed_to_segments (sym state) ∙ is);
    still = still;
    answer = subst (λ (o : Option Outgoing). IfSome x.answer IsReset → IfSome o IsReset) (sym answer) (λ is. is);
  }

  pub same_goes : (x y : Parts) → y ≡ x → Goes U T x y
  same_goes x y same = subst (λ (z : Parts). Goes U T x z) (sym same) (state_goes x x refl refl refl (λ h. h))

  -- both SYNs are acknowledged, and were
  pub met_goes : (x y : Parts) → (is_connected x.state ≡ true) → is_connected y.state ≡ true → y.answer ≡ x.answer → Goes U T x y
  met_goes x y was is answer =
      let before = met_so x.state was in
      let met = met_so y.state is in
      record {
        unborn = λ un. absurd (both_ways (is_unborn y.state) met.born un);
        connected = λ now. inl was;
        passive = λ un. absurd (both_ways (is_passive y.state) met.active un);
        dead = λ un. absurd (both_ways (is_dead x.state) before.living un);
        listens = λ un. absurd (both_ways (is_listening y.state) met.speaks un);
        opened = λ now. inl before.opened;
        still = λ h. met_still y.state y.due y.timer y.send.records is;
        answer = subst (λ (o : Option Outgoing). IfSome x.answer IsReset → IfSome o IsReset) (sym answer) (λ is. is);
      }

  -- it is dead
  pub ended_goes : (x : Parts) (send : SendState) (reset : Bool) (answer : Option Outgoing) → (IfSome x.answer IsReset → IfSome answer IsReset)
      → Goes U T x (record { state = EndPhase.Dead; send = send; due = only_reset reset; timer = None; answer = answer })
  ended_goes x send reset answer resets = record {
    unborn = λ is. absurd (false≢true is);
    connected = λ is. absurd (false≢true is);
    passive = λ is. absurd (false≢true is);
    dead = λ is. refl;
    listens = λ is. absurd (false≢true is);
    opened = λ is. absurd (false≢true (sym is));
    still = λ h. dead_still reset send.records;
    answer = resets;
  }

  pub died_goes : (e : PathEnd) → EndGoes e (died e)
  died_goes e = ended_goes (parts_of e) _ false None (λ is. tt)

  -- the peer's FIN is passed
  pub passed_goes : (x : Parts) → Goes U T x (record x { state = after_fin_passed x.state })
  passed_goes x = by (passed_cases x.state)
    where
      y : Parts
      y = record x { state = after_fin_passed x.state }

      by : (after_fin_passed x.state ≡ x.state) ⊎ ((is_connected x.state ≡ true) × (is_connected (after_fin_passed x.state) ≡ true)) → Goes U T x y
      by (inl same) = state_goes x y same refl refl (subst (λ (state : EndPhase). PartsStill x → Still state x.due x.timer x.send.records) (sym same) (λ h. h))
      by (inr both) = met_goes x y both.0 both.1 refl

  -- the SYN is sent, or a record once more
  pub sent_goes : (x : Parts) (records : List Record) (due : Dues) → (OneSyn x.send.records → OneSyn records) → (due.ack ≡ true → x.due.ack ≡ true) → (due.first ≡ true → x.due.first ≡ true)
      → Goes U T x (record x { send = record x.send { records = records }; due = due })
  sent_goes x records due syns acks first =
      state_goes x (record x { send = record x.send { records = records }; due = due }) refl refl refl
      (λ h. record { acks = λ is. h.acks (acks is); again = λ is. h.again (first is); timed = h.timed; syns = λ is. syns (h.syns is) })

  -- a waiting end begins
  pub begun_goes : (x : Parts) → is_waiting x.state ≡ true → Goes U T x (record x { state = EndPhase.SynSent })
  begun_goes x waits = by x (waiting_is x.state waits)
    where
      by : (x : Parts) → x.state ≡ EndPhase.Waiting → Goes U T x (record x { state = EndPhase.SynSent })
      by x is = record {
        unborn = λ un. (ap is_unborn is, refl);
        connected = λ un. absurd (false≢true un);
        passive = λ un. absurd (false≢true un);
        dead = λ un. absurd (false≢true (sym (ap is_dead is) ∙ un));
        listens = λ un. absurd (false≢true un);
        opened = λ now. inr (inl refl);
        still = λ h. record {
          acks = λ owed. absurd (false≢true (sym (ap is_connected is) ∙ h.acks owed));
          again = λ owed. refl;
          timed = λ runs. refl;
          syns = λ before. h.syns (ap is_before is);
        };
        answer = λ h. h;
      }

  -- a listening end answers a SYN, which was sent
  pub answers_goes : (x : Parts) → is_listening x.state ≡ true → U → Goes U T x (record x { state = EndPhase.SynReceived })
  answers_goes x listens u = by x (listening_is x.state listens)
    where
      by : (x : Parts) → x.state ≡ EndPhase.Listen → Goes U T x (record x { state = EndPhase.SynReceived })
      by x is = record {
        unborn = λ un. absurd (false≢true un);
        connected = λ un. absurd (false≢true un);
        passive = λ now. ap is_passive is;
        dead = λ un. absurd (false≢true (sym (ap is_dead is) ∙ un));
        listens = λ un. absurd (false≢true un);
        opened = λ now. inr (inr u);
        still = λ h. record {
          acks = λ owed. absurd (false≢true (sym (ap is_connected is) ∙ h.acks owed));
          again = λ owed. refl;
          timed = λ runs. refl;
          syns = λ before. h.syns (ap is_before is);
        };
        answer = λ h. h;
      }

  -- the timer is settled, where the end isn't closed
  pub timed_goes : (x : Parts) (on restart : Bool) (now : ℕ) (t : Timing) → Goes U T x (record x { timer = timer_settled (not (is_closed_to_segments x.state) && on) restart now t })
  timed_goes x on restart now t =
      state_goes x (record x { timer = timer_settled (not (is_closed_to_segments x.state) && on) restart now t }) refl refl refl
      (λ h. record { acks = h.acks; again = h.again; timed = λ runs. by (is_closed_to_segments x.state) refl runs; syns = h.syns })
    where
      by : (b : Bool) → is_closed_to_segments x.state ≡ b → is_some (timer_settled (not b && on) restart now t) ≡ true → is_closed_to_segments x.state ≡ false
      by false closed runs = closed
      by true closed runs = absurd (false≢true runs)

  -- it runs out
  pub expired_goes : (x : Parts) (timer : Option ℕ) (some : Bool) → is_closed_to_segments x.state ≡ false
      → Goes U T x (record x { send = record x.send { records = expired_records x.send.records }; timer = timer; due = if some then record x.due { first = true } else x.due })
  expired_goes x timer some is_open =
      state_goes x (record x { send = record x.send { records = expired_records x.send.records }; timer = timer; due = if some then record x.due { first = true } else x.due }) refl refl refl
      (λ h. record { acks = λ owed. h.acks (owes some owed); again = λ owed. is_open; timed = λ runs. is_open; syns = λ before. expired_syn x.send.records (h.syns before) })
    where
      owes : (b : Bool) → (if b then record x.due { first = true } else x.due).ack ≡ true → x.due.ack ≡ true
      owes true owed = owed
      owes false owed = owed
