-- The Data ACK of a copy is told to the send book: its lane hears what is acknowledged, and of a copy that only acknowledges
-- nothing is left to be taken.
use Rattle.clean_finish.proofs.Words.{◌≡◌, refl, sym, subst, ap, ◌∙◌, ℕ, ◌+◌, ◌<◌, ◌≤◌, max, Bool, true, false, not, Option, List, ◌∷◌, ◌++◌, length, map}
use Rattle.clean_finish.proofs.Words.{arith, both_ways, Side, A, B, peer, fin_after, after_ack, is_future, window_told, Duty, Profile, PathEnd, after_acked}
use Rattle.clean_finish.proofs.Words.{covered_by, Setting, Telling, Lane, all_left, Going, hears_ack, Hand, brings_in, Sent, Keys, Brings, shows_keys, copy_in}
use Rattle.clean_finish.proofs.Words.{octets_of, TellsAs, AcknowledgesAs, Follow, dss_from, is_news, OpensSubflow, ShowsKeys, FirstPiece, Piece, Acknowledges}
use Rattle.clean_finish.proofs.Words.{EndsStream, EndsSubflow, MapsAs, TreatsCopy, kept_in, own_bench, other_bench, IsSetting, Facing, Half, Bench, IsBetween}
use Rattle.clean_finish.proofs.Words.{AfterOne, AfterTwo}
use Rattle.clean_finish.specs.Segments.{is_opening}
use Rattle.clean_finish.proofs.DataAcked.{data_acked, now}
use Rattle.clean_finish.proofs.Dropping.{is_waited}
use Rattle.clean_finish.proofs.EndPassing.{sent_some}
use Rattle.clean_finish.proofs.Hands.{in_hand}
use Rattle.clean_finish.proofs.HeardFirst.{no_third}
use Rattle.clean_finish.proofs.Raised.{Emits}
use Rattle.clean_finish.proofs.Skipped.{skipped}

one_dss : (s : Side) → dss_from s ≤ 1
one_dss A = omega arith
one_dss B = omega arith

few : {x y : ℕ} → y ≤ 1 → x ≡ y → x ≤ 1
few less is = omega (arith, less, is)

-- a copy without keys tells the edge of its window
tells_edge : (least : ℕ) (s : Side) (window : ℕ) (t : Telling) (b : Brings) → is_opening b ≡ false → shows_keys b ≡ false → TellsAs least s window t b
    → (t.edge ≡ t.next + window_told false window) × (t.dss ≤ 1)
tells_edge least s window t OpensSubflow e f is = absurd (both_ways _ e refl)
tells_edge least s window t ShowsKeys e f is = absurd (both_ways _ f refl)
tells_edge least s window t (FirstPiece octets) e f is = absurd (both_ways _ f refl)
tells_edge least s window t _ e f is = (is.0, few (one_dss s) is.2)

more : {x y : ℕ} (z : ℕ) → x ≤ y → x ≤ max y z
more z less = omega (arith, less)

module _ {s : Side} {keys : Keys} {k j : Setting} {c : Profile} {begun begun_back : Lane} {m n : Half} {clock until : ℕ} (ticks t u : ℕ)
    (k_is : IsSetting c ticks k) (j_is : IsSetting c ticks j)
    (going : Going k begun t all_left begun) (going_back : Going j begun_back u all_left begun_back)
    {d : Duty} {ds : List Duty} (h : Facing s keys k j c begun begun_back m n clock until (d ∷ ds)) (free : is_waited d ≡ false) (there : Emits s ds)
  where
    abbrev pub end_heard : Sent → PathEnd
    end_heard x = record m.end {
      sending = after_acked x.telling.next (fin_after x.telling.next m.send) m.end.sending;
      modes = covered_by x.telling.next m.end.modes;
      treated = record m.end.treated { data_ack_taken = true };
    }

    abbrev pub half_heard : Sent → Half
    half_heard x = record m { end = end_heard x; send = after_ack x.telling.next (window_told false x.window) m.send }

    abbrev bench_heard : Sent → Bool → Bench
    bench_heard x brings = record (own_bench h) {
      out = (hears_ack (copy_in x) (map copy_in h.way_back.sent) h.out).sender;
      hand = in_hand x brings false;
      end = end_heard x;
    }

    module _ (b : Brings) (f : TreatsCopy s keys AfterOne (shows_keys b) b (own_bench h)) (none : shows_keys b ≡ false) where
      hand : h.hand ≡ in_hand f.sent true true
      hand = f.hand ∙ (ap (λ (y : Bool). in_hand f.sent (not y) (not (shows_keys b))) (no_third b none) ∙ ap (λ (y : Bool). in_hand f.sent true (not y)) none)

      follow : Follow k.least k.total j.total (peer s) h.back.received h.back.control_came h.back.keys_came (f.sent ∷ h.way_back.sent)
      follow = subst (λ (o : Option Hand). Follow k.least k.total j.total (peer s) h.back.received h.back.control_came h.back.keys_came (brings_in o ++ h.way_back.sent))
          hand h.way_back.follow

      tells : (f.sent.telling.edge ≡ f.sent.telling.next + window_told false f.sent.window) × (f.sent.telling.dss ≤ 1)
      tells = tells_edge k.least (peer s) f.sent.window f.sent.telling b f.kind none
          (subst (λ (y : Brings). TellsAs k.least (peer s) f.sent.window f.sent.telling y) f.brings follow.2)

      acknowledges : AcknowledgesAs k.total f.sent
      acknowledges = follow.3.0

      abbrev acked : Facing s keys k j c begun begun_back (half_heard f.sent) n clock until ds
      acked = data_acked ticks t u k_is j_is going going_back h free there f.sent true hand f.waiting f.una f.high (f.clear.2 refl) acknowledges tells.1
          (window_told false f.sent.window) tells.0 f.rests

      -- the Data ACK isn't ahead of what was written
      pub not_ahead : is_future f.sent.telling.next m.send ≡ false
      not_ahead = now ticks t u k_is j_is going going_back h free there f.sent true hand

      -- two things of it were heard
      copy_heard : TreatsCopy s keys AfterTwo (shows_keys b) b (bench_heard f.sent (is_news b))
      copy_heard = record {
        sent = f.sent;
        brings = f.brings;
        hand = refl;
        kind = f.kind;
        some = f.some;
        keyed = f.keyed;
        items = f.items;
        opened = f.opened;
        keys_told = f.keys_told;
        has_option = f.has_option;
        fins = f.fins;
        asked = f.asked;
        plain_ack = f.plain_ack;
        held_edge = f.held_edge;
        owes = f.owes;
        came = f.came;
        una = f.una;
        high = f.high;
        rests = λ less. absurd (over h.out.control_acked f.sent.telling.seen less);
        waiting = f.waiting;
        answered = f.answered;
        ready = f.ready;
        shown = f.shown;
        least = λ is. more f.sent.telling.edge (f.least is);
        clear = (λ is third. more f.sent.telling.dss (f.clear.2 refl), λ e. more f.sent.telling.dss (f.clear.2 refl), λ e. more f.sent.telling.dss (f.clear.2 refl));
        unkeyed = λ third e. absurd (both_ways _ (no_third b none) third);
        places = f.places;
        incoming = f.incoming;
        fin = f.fin;
        maps = subst (λ (y : Bool). MapsAs m.end.tcp.recv.edge y (kept_in c s f.sent (octets_of b)) (length (octets_of b)) m.end.receiving.mappings
            m.end.receiving.mapped_data_fin) (sym none) f.maps;
      }
        where
          over : (x y : ℕ) → max x y < y → ⊥
          over x y less = absurd (omega (arith, less))

    -- the world with the copy, from the side of the end that treats it
    pub ack_told : (b : Brings) (f : TreatsCopy s keys AfterOne (shows_keys b) b (own_bench h)) → shows_keys b ≡ false → IsBetween (peer s) (other_bench h) → h.waiting_back ≡ 0
        → (faces : Facing s keys k j c begun begun_back (half_heard f.sent) n clock until ds) × TreatsCopy s keys AfterTwo (shows_keys b) b (own_bench faces)
        × IsBetween (peer s) (other_bench faces) × (faces.waiting_back ≡ 0)
    ack_told OpensSubflow f none other waits = absurd (both_ways _ f.kind refl)
    ack_told ShowsKeys f none other waits = absurd (both_ways _ none refl)
    ack_told (FirstPiece octets) f none other waits = absurd (both_ways _ none refl)
    ack_told (Piece octets) f none other waits = (acked (Piece octets) f none, copy_heard (Piece octets) f none, other, waits)
    ack_told Acknowledges f none other waits = (
      skipped (acked Acknowledges f none) there.events (sent_some f.came f.answered) f.sent false refl f.brings f.owes,
      copy_heard Acknowledges f none,
      other,
      waits,
    )
    ack_told (EndsStream place) f none other waits = (acked (EndsStream place) f none, copy_heard (EndsStream place) f none, other, waits)
    ack_told EndsSubflow f none other waits = (acked EndsSubflow f none, copy_heard EndsSubflow f none, other, waits)
