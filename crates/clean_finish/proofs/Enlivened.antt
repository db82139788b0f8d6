-- The path lives for the control book.
use Rattle.clean_finish.proofs.Words.{◌≡◌, ap, ◌∙◌, ℕ, Bool, false, List, ◌∷◌, Side, Control, after_live, RegistryPath, with_phase, Duty, Profile, Setting}
use Rattle.clean_finish.proofs.Words.{Lane, ControlIs, Keys, Facing, Half}
use Rattle.control_book.specs.declared.registry.Phase.TheVariants.{Living}
use Rattle.clean_finish.proofs.Dropping.{is_waited}
use Rattle.clean_finish.proofs.Passing.{free_drops}

pub lives_on : (s : Side) (keys : Keys) (path : ℕ) (backup : Bool) (c : Control) → path ≡ 0 → ControlIs s keys c → ControlIs s keys (after_live path backup c)
lives_on s keys path backup c first is = record {
  mode = is.mode;
  joined = is.joined;
  own_key = is.own_key;
  first = record is.first { phase = Living };
  alone = ap (λ (n : ℕ). with_phase n Living c.paths) first
      ∙ ap (λ (ps : List RegistryPath). with_phase 0 Living ps) is.alone;
  carrier = is.carrier;
  stays = is.stays;
  announces = is.announces;
  withdraws = is.withdraws;
}

module _ {s : Side} {keys : Keys} {k j : Setting} {c : Profile} {begun begun_back : Lane} {m n : Half} {clock until : ℕ} where
  abbrev pub enlivened : (d : Duty) (ds : List Duty) → is_waited d ≡ false → (path : ℕ) (backup : Bool) → path ≡ 0
      → Facing s keys k j c begun begun_back m n clock until (d ∷ ds)
      → Facing s keys k j c begun begun_back (record m { control = after_live path backup m.control }) n clock until ds
  enlivened d ds free path backup first g =
      let h = free_drops d ds free g in
      record {
        out = h.out;
        back = h.back;
        stage = h.stage;
        stage_back = h.stage_back;
        going = h.going;
        going_back = h.going_back;
        now = h.now;
        now_back = h.now_back;
        hand = h.hand;
        hand_back = h.hand_back;
        owes = h.owes;
        owes_back = h.owes_back;
        waiting = h.waiting;
        waiting_back = h.waiting_back;
        own = h.own;
        other = h.other;
        way = h.way;
        way_back = h.way_back;
        apps = h.apps;
        apps_back = h.apps_back;
        stages = h.stages;
        stages_back = h.stages_back;
        control = lives_on s keys path backup m.control first g.control;
        control_back = h.control_back;
        turn = h.turn;
        turn_back = h.turn_back;
        settles = h.settles;
        settles_back = h.settles_back;
        begins = h.begins;
        begins_back = h.begins_back;
        owed = h.owed;
        owed_back = h.owed_back;
      }
