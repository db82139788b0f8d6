-- What a step of the path leaves of the numbers that its ends and its copies tell.
use Rattle.world_laws.proofs.Words.{◌≡◌, refl, ℕ, ◌+◌, ◌≤◌, nat_lt, Bool, true, false, if◌then◌else◌, List, [], ◌∷◌, length, arith, ◌^◌, and_parts, and_from}
use Rattle.world_laws.proofs.Words.{list_all, IfSome, Side, A, B, peer, Control, received, is_end, next_wanted, window, changed, next_number}
use Rattle.world_laws.proofs.Words.{is_stripped, is_altered, PlainSegment, Duty, SendDuty, AskDuty, replaced, SixBooks}
use Rattle.world_laws.proofs.Words.{send_of, reassembly_of, control_of, tail_of, pick, PathEnd, PathState, end_at, goes_on, with_agenda, Carried, carried_by}
use Rattle.world_laws.proofs.Words.{stripped, altered, values, Profile, sent_on, handed, Every, Holds, Lane, LaneIsShort, paths_short}
use Rattle.stream_lanes.proofs.Views.{received_written}
use Rattle.control_book.specs.declared.book.Keys.{Keys}
use Rattle.world_laws.proofs.Numbers.IdsFit.{IdsFit}
use Rattle.world_laws.proofs.Lanes.OfAWorld.{flags_of, Others, duo_at}
use Rattle.world_laws.proofs.Lanes.Roads.{put_there}
use Rattle.world_laws.proofs.Lanes.Saying.{handed_kept}
use Rattle.world_laws.proofs.Numbers.TellSmall.{IsShort, IsKey, SegmentTells, EndTells, altered_tells}

-- ---- the path

pub record CopyTells (c : Profile) (to : Side) (carried : Carried) : Type 0 where
  pub from : carried.from ≡ peer to
  pub segment : SegmentTells c (peer to) carried.segment

-- a reason is an octet
abbrev pub is_fair : Duty → Bool
is_fair (Duty.Ask (AskDuty.BreakAck s reason)) = nat_lt reason 256
is_fair (Duty.Send (SendDuty.BreakReset s reason)) = nat_lt reason 256
is_fair _ = true

abbrev pub AreFair : List Duty → Type 0
AreFair ds = list_all is_fair ds ≡ true

pub record PathTells (c : Profile) (p : PathState Carried) : Type 0 where
  pub a : EndTells c A p.a
  pub b : EndTells c B p.b
  pub copies : Every (λ f. CopyTells c f.to f.carried) p.link.under_way
  pub agenda : AreFair p.agenda

-- ---- agendas

pub tail_fair : (ds : List Duty) → AreFair ds → AreFair (tail_of ds)
tail_fair [] h = refl
tail_fair (d ∷ ds) h = (and_parts (is_fair d) (list_all is_fair ds) h).1

pub replaced_fair : (d : Duty) (ds : List Duty) → is_fair d ≡ true → AreFair ds → AreFair (replaced d ds)
replaced_fair d [] fair h = refl
replaced_fair d (e ∷ ds) fair h = and_from (is_fair d) (list_all is_fair ds) fair (and_parts (is_fair e) (list_all is_fair ds) h).1

-- ---- the books

-- the keys that a control book has
pub record KeysAreShort (keys : Keys) : Type 0 where
  pub own : IsKey keys.own
  pub peer : IfSome keys.peer IsKey

-- a control book has such keys, and tells ids below 256
pub record ControlIsShort (c : Control) : Type 0 where
  pub keys : KeysAreShort c.keys
  pub ids : IdsFit c

-- what is written is short, a reader takes no more than 2^20 octets, and keys have 64 bits
pub record BooksAreShort (six : SixBooks) : Type 0 where
  pub written : (s : Side) → length (send_of s six).written + 3 ≤ 2 ^ 31
  pub room : (s : Side) → (reassembly_of s six).capacity ≤ 2 ^ 20
  pub control : (s : Side) → ControlIsShort (control_of s six)

-- the lane that a side sends on has no more octets than were written
pub sent_short : (six : SixBooks) (others : Others) (ab ba : Lane) → Holds (duo_at six ab ba others) → (s : Side) → LaneIsShort (length (send_of s six).written) (pick s ab ba)
sent_short six others ab ba holds A =
    (paths_short (flags_of others.links A six) (duo_at six ab ba others).ab holds.ab).each others.number ab (put_there others.lanes_ab others.number ab others.within_ab)
sent_short six others ab ba holds B =
    (paths_short (flags_of others.links B six) (duo_at six ab ba others).ba holds.ba).each others.number ba (put_there others.lanes_ba others.number ba others.within_ba)

module _ (six : SixBooks) (others : Others) (ab ba : Lane) (holds : Holds (duo_at six ab ba others)) (short : BooksAreShort six) where
  received_short : (s : Side) → received (reassembly_of s six) ≤ length (send_of (peer s) six).written
  received_short A = received_written _ six.reassembly_a holds.ba.arrived
  received_short B = received_written _ six.reassembly_b holds.ab.arrived

  one_more_at_most : (b : Bool) (n : ℕ) → n + (if b then 1 else 0) ≤ n + 1
  one_more_at_most = elim [ true ↦ λ n. omega arith | false ↦ λ n. omega arith ]

  -- what is to be acknowledged
  pub next_short : (s : Side) → IsShort (next_wanted (reassembly_of s six))
  next_short s =
      let b = reassembly_of s six in
      let r = received_short s in let w = short.written (peer s) in let m = one_more_at_most (is_end b.known_end (received b)) (received b) in
      omega (arith, r, w, m)

  pub window_short : (s : Side) → window (reassembly_of s six) ≤ 2 ^ 20
  window_short s = let room = short.room s in omega (arith, room)

  -- the lane that a side sends on, and the one that it hears
  pub out_short : (s : Side) → LaneIsShort (length (send_of s six).written) (pick s ab ba)
  out_short s = sent_short six others ab ba holds s

  pub back_short : (s : Side) → LaneIsShort (length (send_of (peer s) six).written) (pick s ba ab)
  back_short = elim [ A ↦ sent_short six others ab ba holds B | B ↦ sent_short six others ab ba holds A ]

-- ---- an end goes on

module _ (c : Profile) (p : PathState Carried) (h : PathTells c p) where
  pub tells_at : (s : Side) → EndTells c s (end_at s p)
  tells_at = elim [ A ↦ h.a | B ↦ h.b ]

  pub tells_on : (s : Side) (e : PathEnd) (ds : List Duty) → EndTells c s e → AreFair ds → PathTells c (goes_on s e ds p)
  tells_on A e ds tells fair = record { a = tells; b = h.b; copies = h.copies; agenda = fair }
  tells_on B e ds tells fair = record { a = h.a; b = tells; copies = h.copies; agenda = fair }

  pub tells_agenda : (ds : List Duty) → AreFair ds → PathTells c (with_agenda ds p)
  tells_agenda ds fair = record { a = h.a; b = h.b; copies = h.copies; agenda = fair }

  -- also where its options were taken away, or a bit of its payload was turned
  maybe_changed : (s : Side) (sg : PlainSegment) (strips alters : Bool) → SegmentTells c s sg → CopyTells c (peer s) (changed stripped altered strips alters (carried_by p.profile.spelling s sg))
  maybe_changed A sg true true tells = record { from = refl; segment = altered_tells c A sg tells }
  maybe_changed A sg false true tells = record { from = refl; segment = altered_tells c A sg tells }
  maybe_changed B sg true true tells = record { from = refl; segment = altered_tells c B sg tells }
  maybe_changed B sg false true tells = record { from = refl; segment = altered_tells c B sg tells }
  maybe_changed A sg true false tells = record { from = refl; segment = tells }
  maybe_changed A sg false false tells = record { from = refl; segment = tells }
  maybe_changed B sg true false tells = record { from = refl; segment = tells }
  maybe_changed B sg false false tells = record { from = refl; segment = tells }

  handed_tells : (s : Side) (sg : PlainSegment) → SegmentTells c s sg → Every (λ f. CopyTells c f.to f.carried) (handed values s sg p).under_way
  handed_tells s sg tells =
      let number = next_number s p.link in
      handed_kept (λ f. CopyTells c f.to f.carried) s sg p
      (λ tick. maybe_changed s sg (is_stripped s number p.clock p.link.lines) (is_altered s number p.link.lines) tells) h.copies

  pub tells_sent : (s : Side) (sg : PlainSegment) (e : PathEnd) (ds : List Duty) → SegmentTells c s sg → EndTells c s e → AreFair ds
      → PathTells c (sent_on values s sg e ds p)
  tells_sent A sg e ds said tells fair = record { a = tells; b = h.b; copies = handed_tells A sg said; agenda = fair }
  tells_sent B sg e ds said tells fair = record { a = h.a; b = tells; copies = handed_tells B sg said; agenda = fair }
