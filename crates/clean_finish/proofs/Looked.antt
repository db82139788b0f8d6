-- The control book tells how the side stands: with Multipath TCP, and no path beside this one.
use Rattle.clean_finish.proofs.Words.{◌≡◌, refl, sym, subst, ap, ◌∙◌, ℕ, ◌≤◌, Bool, true, false, not, ◌&&◌, ◌||◌, if◌then◌else◌, ◌⊎◌, inl, inr, Option, None}
use Rattle.clean_finish.proofs.Words.{List, ◌∷◌, list_any, Side, peer, Control, peer_or_zero, is_path, withdrawals_on, after_notice, book_looked}
use Rattle.clean_finish.proofs.Words.{address_notice, announcement, carries, is_aborted, notice_on, look_reply, resets, RegistryPath, every_path, lowest_living}
use Rattle.clean_finish.proofs.Words.{opening_paths, serves_beside, standby, state_of, is_dead, Duty, StepDuty, AskDuty, tail_of, Reply, Profile, PathEnd}
use Rattle.clean_finish.proofs.Words.{may_note, after_look, Setting, Lane, EndIs, ControlIs, NoticesAre, IsPlainMode, Keys, Facing, Half, Has, HasNotBegun}
use Rattle.clean_finish.proofs.Words.{Starts, IsSure}
use Rattle.address_manager.specs.IdSet.{is_member, lowest}
use Rattle.control_book.specs.declared.call.Notice.{Notice}
use Rattle.fallback_state.specs.declared.fall.Mode.{Mode}
use Rattle.path_core.specs.Notices.{after_notice as after_noted}
use Rattle.clean_finish.proofs.Dropping.{differ, behind, is_apart, stage_drops, settles_drop, begun_drops}

and_false : (a b : Bool) → b ≡ false → a && b ≡ false
and_false true b e = e
and_false false b e = refl

-- no other path lives
none_serves : (first : RegistryPath) (backups : List Bool) → list_any (serves_beside (first ∷ tail_of opening_paths) backups 0) every_path ≡ false
unfolding opening_paths every_path serves_beside
none_serves first backups = refl

pub never_standby : (first : RegistryPath) (paths : List RegistryPath) (backups : List Bool) → paths ≡ first ∷ tail_of opening_paths
    → standby paths backups 0 ≡ false
never_standby first paths backups is =
    subst (λ (ps : List RegistryPath). standby ps backups 0 ≡ false) (sym is)
    (and_false (is_member backups 0) _ (none_serves first backups))

plain_aborts : (mode : Mode) → IsPlainMode mode → is_aborted mode ≡ false
plain_aborts mode (Starts is) = ap is_aborted is
plain_aborts mode (IsSure is) = ap is_aborted is

-- a book that nothing stops, and that has no address to tell, tells nothing
pub nothing_noted : (s : Side) (keys : Keys) (c : Control) → ControlIs s keys c → notice_on c 0 ≡ Notice.Nothing
nothing_noted s keys c is =
    ap (λ (b : Bool). if b then Notice.Reset else (if carries c 0 then Notice.Carrier (peer_or_zero c.keys.peer) else others)) stays
    ∙ (ap (λ (b : Bool). if b then Notice.Carrier (peer_or_zero c.keys.peer) else others) carried
    ∙ (ap (λ (o : Option ℕ). address_notice o (lowest (withdrawals_on c.notices.withdrawals 0))) announced
    ∙ ap (λ (o : Option ℕ). address_notice None o) is.withdraws))
  where
    others : Notice
    others = address_notice (announcement c 0) (lowest (withdrawals_on c.notices.withdrawals 0))

    carried : carries c 0 ≡ false
    carried = ap (λ (o : Option ℕ). is_path o 0) is.carrier

    kept : (state_of c.paths 0).removed ≡ false
    kept = ap (λ (ps : List RegistryPath). (state_of ps 0).removed) is.alone ∙ is.stays

    stays : resets c 0 ≡ false
    stays = ap (λ (b : Bool). b && not (carries c 0) || (state_of c.paths 0).removed) (plain_aborts c.fall.mode is.mode) ∙ kept

    announced : announcement c 0 ≡ None
    announced = by (c.fall.confirmed && is_path (lowest_living c.paths) 0)
      where
        by : (b : Bool) → (if b then lowest c.addresses.due else None) ≡ None
        by true = is.announces
        by false = refl

module _ {s : Side} {keys : Keys} {k j : Setting} {c : Profile} {begun begun_back : Lane} {m n : Half} {clock until : ℕ} where
  module _ {ds : List Duty} (h : Facing s keys k j c begun begun_back m n clock until (Duty.Step (StepDuty.Look s) ∷ ds)) where
    abbrev pub end_after : PathEnd
    end_after = after_look (Reply.Control (look_reply 0 m.control)) m.end

    pub control_after : (b : Control) → ControlIs s keys b → ControlIs s keys (book_looked 0 b)
    control_after b is = subst (λ (n : Notice). ControlIs s keys (after_notice n 0 b)) (sym (nothing_noted s keys b is)) is

    pub begun_after : (1 ≤ h.out.control_sent) ⊎ HasNotBegun s j h.out.sender h.back.receiver m.end (Duty.Step (StepDuty.Look s) ∷ ds)
        → (1 ≤ h.out.control_sent) ⊎ HasNotBegun s j h.out.sender h.back.receiver end_after ds
    begun_after (inl sent) = inl sent
    begun_after (inr none) = inr (record {
      ready = none.ready;
      received = none.received;
      data_fin = none.data_fin;
      keys = none.keys;
      told = none.told;
      next = none.next;
      window = window_on none.window;
      syn = λ is. ((none.syn is).0, behind ds (differ refl) (none.syn is).1);
    })
      where
        window_on : (m.end.receiving.window ≡ j.buffer) ⊎ Has (Duty.Ask (AskDuty.Window s)) (Duty.Step (StepDuty.Look s) ∷ ds) → (m.end.receiving.window ≡ j.buffer) ⊎ Has (Duty.Ask (AskDuty.Window s)) ds
        window_on (inl is) = inl is
        window_on (inr there) = inr (behind ds (differ refl) there)

    -- nothing is noted
    pub notices_after : (dead : Bool) → NoticesAre (if dead then m.end.notices else after_noted (notice_on m.control 0) (may_note m.end) m.end.notices)
    notices_after true = h.own.notices
    notices_after false = subst (λ (n : Notice). NoticesAre (after_noted n (may_note m.end) m.end.notices)) (sym (nothing_noted s keys m.control h.control)) h.own.notices

    pub own_after : EndIs s keys k j h.out.sender h.back.receiver h.hand h.owes h.waiting end_after
    own_after = record {
      subflow = h.own.subflow;
      sending = h.own.sending;
      receiving = h.own.receiving;
      modes = record {
        mode = h.control.mode;
        standby = never_standby h.control.first m.control.paths m.control.addresses.backups h.control.alone;
        mapping = h.own.modes.mapping;
        owes_third = h.own.modes.owes_third;
        owes_mapping = h.own.modes.owes_mapping;
        mapped_to = h.own.modes.mapped_to;
        plain_acks = h.own.modes.plain_acks;
        own_key = h.own.modes.own_key;
        peer_key = h.own.modes.peer_key;
        clear = h.own.modes.clear;
        capable = h.own.modes.capable;
        ready = h.own.modes.ready;
        cleared = h.own.modes.cleared;
        both = h.own.modes.both;
        shown = h.own.modes.shown;
      };
      timer = h.own.timer;
      notices = notices_after (is_dead m.end.tcp.state);
    }

    abbrev pub looked : Facing s keys k j c begun begun_back (record m { end = end_after; control = book_looked 0 m.control }) n clock until ds
    looked = record {
      out = h.out;
      back = h.back;
      stage = h.stage;
      stage_back = h.stage_back;
      going = h.going;
      going_back = h.going_back;
      now = h.now;
      now_back = h.now_back;
      hand = h.hand;
      hand_back = h.hand_back;
      owes = h.owes;
      owes_back = h.owes_back;
      waiting = h.waiting;
      waiting_back = h.waiting_back;
      own = own_after;
      other = h.other;
      way = h.way;
      way_back = h.way_back;
      apps = h.apps;
      apps_back = h.apps_back;
      stages = stage_drops s (peer s) (Duty.Step (StepDuty.Look s)) ds n.end.treated.asked h.owes_back h.stage (is_apart s (peer s) (Duty.Step (StepDuty.Look s)) refl) h.stages;
      stages_back = stage_drops (peer s) s (Duty.Step (StepDuty.Look s)) ds m.end.treated.asked h.owes h.stage_back (is_apart (peer s) s (Duty.Step (StepDuty.Look s)) refl) h.stages_back;
      control = control_after m.control h.control;
      control_back = h.control_back;
      turn = h.turn;
      turn_back = h.turn_back;
      settles = settles_drop s (Duty.Step (StepDuty.Look s)) ds m.end (differ refl) h.settles;
      settles_back = settles_drop (peer s) (Duty.Step (StepDuty.Look s)) ds n.end (differ refl) h.settles_back;
      begins = begun_after h.begins;
      begins_back = begun_drops (peer s) k h.back.sender h.out.receiver n.end (Duty.Step (StepDuty.Look s)) ds (differ refl) (λ is. differ refl) h.begins_back;
      owed = h.owed;
      owed_back = h.owed_back;
    }
