-- The step in which a copy that is no SYN arrives at B.
use Rattle.clean_finish.proofs.Words.{◌≡◌, refl, sym, subst, ap, ℕ, ◌<◌, ◌≤◌, min, false, None, List, [], ◌∷◌, length, A, B, KeptMapping, Outgoing, Meaning}
use Rattle.clean_finish.proofs.Words.{Flight, going_to, due_of, meant, Duty, StepDuty, AskDuty, heard_and, payload_came, copy_came, SixBooks, AppState, Carried}
use Rattle.clean_finish.proofs.Words.{values, PathEnd, held_of, reset_for, copy_taken, PathState, goes_on, is_joined, Setting, Lane, all_left, Going, PathPlan}
use Rattle.clean_finish.proofs.Words.{Start, WayIs, Sent, Keys, position_of, said, IsSetting, Runs, keys_in, Facing, half}
use Rattle.clean_finish.specs.Segments.{is_opening}
use Rattle.clean_finish.proofs.ArrivesAtB.{copy, q, tick, moment, first, faced, link, Follows, follows, comes_as}
use Rattle.clean_finish.proofs.CopyComes.{comes, count_is, judged_is, meaning, taken, treats}
use Rattle.clean_finish.proofs.Hands.{way_none}
use Rattle.clean_finish.proofs.TakenOwn.{end_by, items}
use Rattle.clean_finish.proofs.Turned.{from_b}

module _ (start : Start) (plan : PathPlan) (k j : Setting) (s v : Lane) (t0 u0 : ℕ)
    (going : Going k s t0 all_left s) (going_back : Going j v u0 all_left v)
  where
    abbrev keys : Keys
    keys = keys_in start

    module _ (a b : AppState) (books : SixBooks) (p : PathState Carried) (f : Flight Carried) (others : List (Flight Carried))
        (k_is : IsSetting p.profile plan.delay k) (j_is : IsSetting p.profile plan.delay j)
        (h : Runs start plan k j s v a b books (q start plan k j s v t0 u0 going going_back a b books p f others k_is j_is)) (early : f.tick < p.until)
      where
        abbrev x : Sent
        x = (first start plan k j s v t0 u0 going going_back a b books p f others k_is j_is h early).x

        abbrev xs : List Sent
        xs = (first start plan k j s v t0 u0 going going_back a b books p f others k_is j_is h early).xs

        abbrev now_before : PathState Carried
        now_before = q start plan k j s v t0 u0 going going_back a b books p f others k_is j_is

        abbrev now : PathState Carried
        now = moment start plan k j s v t0 u0 going going_back a b books p f others k_is j_is

        abbrev Relation : PathState Carried → Type 0
        Relation r = Runs start plan k j s v a b books r

        abbrev face : Facing B keys j k p.profile v s (half B b books now_before) (half A a books now_before) (tick start plan k j s v t0 u0 going going_back a b books p f others k_is j_is) p.until
            ((Duty.Step StepDuty.Events) ∷ Duty.End ∷ [])
        face = faced start plan k j s v t0 u0 going going_back a b books p f others k_is j_is h early

        module _ (opens : is_opening x.brings ≡ false) where
          follow : Follows start plan k j s v t0 u0 going going_back a b books p f others k_is j_is h early
          follow = follows start plan k j s v t0 u0 going going_back a b books p f others k_is j_is h early

          none : face.hand ≡ None
          none = h.treats.0.1.none

          unowed : face.owes ≡ false
          unowed = h.treats.0.1.owes

          waiting : face.waiting ≡ 0
          waiting = h.treats.2

          answered : min 1 face.back.control_came ≤ face.out.control_sent
          answered = h.treats.0.1.answered

          abbrev way : WayIs p.profile keys j k A face.back.sender face.back.receiver face.back.datas face.out.acks None p.b.tcp.send.una p.a.tcp.recv.edge
              (copy start plan k j s v t0 u0 going going_back a b books p f others k_is j_is ∷ going_to B others)
          way = way_none p.profile keys j k A face.back.sender face.back.receiver face.back.datas face.out.acks p.b.tcp.send.una p.a.tcp.recv.edge h.hand_back
              h.treats.0.1.none (copy start plan k j s v t0 u0 going going_back a b books p f others k_is j_is ∷ going_to B others) face.way_back

          sent : way.sent ≡ x ∷ xs
          sent = (first start plan k j s v t0 u0 going going_back a b books p f others k_is j_is h early).is

          abbrev told : List KeptMapping
          told = held_of p.profile B (meant (said p.profile keys A x))

          abbrev answer : Outgoing
          answer = reset_for p.profile B (meant (said p.profile keys A x))

          opens_first : is_joined p.profile ≡ false
          opens_first = rw k_is.path refl

          abbrev count : ℕ
          count = length (items face x told answer)

          abbrev end_after : PathEnd
          end_after = end_by face x told answer (taken plan.delay u0 t0 j_is k_is going_back going face none unowed waiting answered (copy start plan k j s v t0 u0 going going_back a b books p f others k_is j_is) (going_to B others) x xs way sent
              opens follow.low follow.counts follow.tells follow.acknowledges follow.shows told answer)

          arrives : Relation (goes_on B end_after (copy_came B count) now)
          arrives =
              let faces = from_b keys k j s v a b books (goes_on B end_after (copy_came B count) now)
              (comes plan.delay u0 t0 j_is k_is going_back going face none unowed waiting answered (copy start plan k j s v t0 u0 going going_back a b books p f others k_is j_is) (going_to B others) x xs way sent opens follow.low follow.counts follow.tells
              follow.acknowledges follow.shows told answer) in
              record {
                path = record {
                  profile = h.path.profile;
                  delay = h.path.delay;
                  number = h.path.number;
                  unspoken = h.path.unspoken;
                  lines = h.path.lines;
                  joined = h.path.joined;
                };
                link = link start plan k j s v t0 u0 going going_back a b books p f others k_is j_is h early;
                faces = faces;
                treats = (
                  x.brings,
                  treats plan.delay u0 t0 j_is k_is going_back going face none unowed waiting answered (copy start plan k j s v t0 u0 going going_back a b books p f others k_is j_is) (going_to B others) x xs way sent opens follow.low follow.counts follow.tells
                      follow.acknowledges follow.shows told answer follow.brings h.treats.0.1 opens_first refl,
                  (
                    h.treats.0.0,
                    h.treats.1,
                    ap (λ (n : ℕ). Duty.Ask (AskDuty.Live B) ∷ heard_and B 0 n (payload_came B))
                        (count_is plan.delay u0 t0 j_is k_is going_back going face none unowed waiting answered (copy start plan k j s v t0 u0 going going_back a b books p f others k_is j_is) (going_to B others) x xs way sent opens follow.low follow.counts follow.tells
                        follow.acknowledges follow.shows told answer follow.brings h.treats.0.1 opens_first refl),
                  ),
                );
              }

          pub copy_comes : Relation (copy_taken values (due_of (copy start plan k j s v t0 u0 going going_back a b books p f others k_is j_is)) (q start plan k j s v t0 u0 going going_back a b books p f others k_is j_is))
          copy_comes =
              subst Relation (sym (comes_as start plan k j s v t0 u0 going going_back a b books p f others k_is j_is h early (Meaning.Taken (position_of x) x.edge)
              (meaning plan.delay u0 t0 j_is k_is going_back going face none unowed waiting answered (copy start plan k j s v t0 u0 going going_back a b books p f others k_is j_is) (going_to B others) x xs way sent opens follow.low follow.counts
              follow.tells follow.acknowledges follow.shows told answer)))
              (subst (λ (e : PathEnd). Relation (goes_on B e (copy_came B count) now))
              (sym (judged_is plan.delay u0 t0 j_is k_is going_back going face none unowed waiting answered (copy start plan k j s v t0 u0 going going_back a b books p f others k_is j_is) (going_to B others) x xs way sent opens follow.low follow.counts
              follow.tells follow.acknowledges follow.shows told answer)) arrives)
