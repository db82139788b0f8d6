-- A segment that the link takes and that isn't harmed comes within 400 ticks.
use Rattle.std.proofs.Common.{◌≡◌, refl, sym, subst, ap, ◌∙◌, ◌⊎◌, inl, inr, ⊎_elim, ℕ, ◌-◌, ◌^◌, ◌<◌, ◌≤◌, arith, true, Some, length}
use Rattle.std.specs.List.{slice_get}
use Rattle.sides.specs.declared.side.Side.{Side}
use Rattle.sides.specs.declared.side.Side.TheVariants.{A, B}
use Rattle.sides.specs.Side.{peer}
use Rattle.path_segments.specs.Spelled.{PlainSegment}
use Rattle.link_model.specs.declared.flight.Flight.{Flight}
use Rattle.link_model.specs.Fate.{is_stripped, is_altered}
use Rattle.link_model.specs.State.{LinkState}
use Rattle.link_model.specs.Steps.{after_send, arrivals, fate_at, first_arrival, next_number, segments_sent, with_flights}
use Rattle.stream_lanes.specs.Words.{Every, Has}
use Rattle.path_core.specs.Codec.{Codec}
use Rattle.path_core.specs.Handover.{handed}
use Rattle.path_core.specs.Octets.{made}
use Rattle.path_core.specs.State.{PathState}
use Rattle.world_laws.specs.declared.member.Member.TheVariants.{App, Path}
use Rattle.world_laws.specs.Actors.{Actor}
use Rattle.world_laws.specs.Laws.{Always}
use Rattle.world_laws.specs.Members.{HoldsOfKind}
use Rattle.whole_paths.specs.Finish.{is_harmed}
use Rattle.whole_paths.specs.Harms.{as_it_arrives}
use Rattle.whole_paths.specs.Copies.{CopiesAreNumbered, LinksAreNumbered}
use Rattle.whole_paths.specs.Mending.{IsSentSoon, SegmentsComeSoon, WhatIsSentComesSoon}
use Rattle.whole_paths.specs.Unharmed.{ComesUnharmed}
use Rattle.whole_paths.proofs.Arrivals.{sender_of}
use Rattle.whole_paths.proofs.Due.{LinkIs, LinkMember, each_link, with_all}
use Rattle.whole_paths.proofs.Unharmed.{is_harmed_or_comes}

module _ {C : Type 0} where
  sent_counts : (strip alter : Side → C → C) (from : Side) (carried : C) (size now : ℕ) (link : LinkState C)
      → segments_sent from (after_send strip alter from carried size now link) ≡ next_number from link
  sent_counts strip alter A carried size now link = refl
  sent_counts strip alter B carried size now link = refl

  pub with_copies : (strip alter : Side → C → C) (from : Side) (carried : C) (size now : ℕ) (link : LinkState C) → (after_send strip alter from carried size now link).under_way
      ≡ with_flights (peer from) (next_number from link) (as_it_arrives strip alter from carried now link) (arrivals (fate_at from (next_number from link) size now link) (first_arrival from (next_number from link) size now link)) link.under_way
  with_copies strip alter A carried size now link = refl
  with_copies strip alter B carried size now link = refl

  -- ---- a link takes a segment

  module _ (k : Codec C) (s : Side) (x : PlainSegment) (p q : PathState C) (numbered : CopiesAreNumbered p) (few : segments_sent s p.link < 2 ^ 64 - 1) (taken : q.link ≡ handed k s x p) where
    abbrev number : ℕ
    number = next_number s p.link

    abbrev carried : C
    carried = as_it_arrives (k.strips p.profile.spelling) (k.alters p.profile.spelling) s (k.makes p.profile.spelling s x) p.clock p.link

    abbrev size : ℕ
    size = length (made p.profile.spelling s x)

    -- a copy of this number carries the segment
    abbrev Carries : Flight C → Type 0
    Carries g = g.to ≡ peer s → g.number ≡ number → g.carried ≡ carried

    -- none was under way before
    not_before : (g : Flight C) (i : ℕ) → slice_get p.link.under_way i ≡ Some g → Carries g
    not_before g i at to is =
        let low : g.number ≤ segments_sent s p.link = subst (λ t. g.number ≤ segments_sent t p.link) (ap peer to ∙ sender_of s) (numbered g (record { at = i; item = g; there = at; holds = refl })) in
        absurd (omega (arith, low, is, few))

    each_carries : Every Carries q.link.under_way
    each_carries = subst (λ (l : LinkState C). Every Carries l.under_way) (sym taken)
        (subst (Every Carries) (sym (with_copies (k.strips p.profile.spelling) (k.alters p.profile.spelling) s (k.makes p.profile.spelling s x) size p.clock p.link))
        (with_all Carries (peer s) number carried (λ tick to is. refl) (arrivals (fate_at s number size p.clock p.link) (first_arrival s number size p.clock p.link)) p.link.under_way
        (record { each = λ i g at. not_before g i at })))

    count_is : segments_sent s q.link ≡ number
    count_is = ap (segments_sent s) taken ∙ sent_counts (k.strips p.profile.spelling) (k.alters p.profile.spelling) s (k.makes p.profile.spelling s x) size p.clock p.link

    comes : Has (ComesUnharmed s p q) q.link.under_way → IsSentSoon k s x p q
    comes h = record {
      copy = h.item;
      there = record { at = h.at; item = h.item; there = h.there; holds = refl };
      to = h.holds.to;
      number = h.holds.number;
      soon = h.holds.soon;
      stripped = is_stripped s number p.clock p.link.lines;
      altered = is_altered s number p.link.lines;
      strips_it = refl;
      alters_it = refl;
      whole = λ strips. strips.strips s number p.clock;
      plain = λ alters. alters.alters s number;
      carried = each_carries.each h.at h.item h.there h.holds.to (h.holds.number ∙ count_is);
    }

    comes_or_harmed : (is_harmed s p q ≡ true) ⊎ IsSentSoon k s x p q
    comes_or_harmed = ⊎_elim (λ harmed. inl harmed) (λ h. inr (comes h)) (is_harmed_or_comes s p q (let is = count_is in omega (arith, is, few)))

  pub segments_come_soon : (k : Codec C) (p q : PathState C) → CopiesAreNumbered p → SegmentsComeSoon k p q
  segments_come_soon k p q numbered s x few taken = comes_or_harmed k s x p q numbered few taken

  -- ---- numbers

  pub numbered_so : (p : PathState C) → LinkIs p.link → CopiesAreNumbered p
  numbered_so p h f there = subst (λ (g : Flight C). g.number ≤ segments_sent (peer g.to) p.link) there.holds (h.low.each there.at there.item there.there)

  member_so : (m : Actor C) → LinkMember m → HoldsOfKind (λ app. Unit {0}) CopiesAreNumbered m
  member_so (App a) h = tt
  member_so (Path p) h = numbered_so p h

  always_numbered : (k : Codec C) → Always k (λ start w. LinksAreNumbered w)
  always_numbered k start turns = record { each = λ actor c there. member_so c.member ((each_link k start turns).each actor c there) }

  pub what_is_sent_comes_soon : (k : Codec C) → WhatIsSentComesSoon k
  what_is_sent_comes_soon k = record { numbered = always_numbered k; comes = λ p q numbered. segments_come_soon k p q numbered }
