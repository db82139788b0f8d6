-- An application was told the end of its stream exactly by its own steps, and of no abort, where its book was never aborted.
use Rattle.clean_finish.proofs.Words.{◌≡◌, refl, sym, subst, ap, ◌∙◌, ℕ, Bool, true, false, ◌||◌, if◌then◌else◌, Option, None, List, [], ◌∷◌, ◌++◌, take}
use Rattle.clean_finish.proofs.Words.{or_from, Arriving, filled, is_end, bytes_reply, reading, NoneYet, TheEnd, Reply, SixBooks, reply_of, reassembly_of}
use Rattle.clean_finish.proofs.Words.{AppDuty, Read, FastClose, AppState, app_ask, app_answered, app_answers, app_settles_down, app_takes, app_next_round}
use Rattle.clean_finish.proofs.Words.{fresh_turn, start_of_app, ends_in, tells_abort, tells_end, was_told, note_tells}
use Rattle.actor_desk.specs.declared.ask.Note.{Note}
use Rattle.world_laws.proofs.Lanes.Applying.{any_more, settled_app}

pub record TellsAs (a : AppState) (notes : List Note) : Type 0 where
  pub told : a.told ≡ was_told tells_end notes
  pub unaborted : was_told tells_abort notes ≡ false

or_none : (b : Bool) → (b || false) ≡ b
or_none true = refl
or_none false = refl

-- a step that tells no end
quiet : (a m : AppState) (notes : List Note) (n : Note) → m.told ≡ a.told → tells_end n.reply ≡ false → tells_abort n.reply ≡ false
    → TellsAs a notes → TellsAs m (notes ++ n ∷ [])
quiet a m notes n same none no_abort h = record {
  told = same ∙ h.told ∙ sym (any_more (note_tells tells_end) notes n ∙ ap (λ (b : Bool). was_told tells_end notes || b) none
      ∙ or_none (was_told tells_end notes));
  unaborted = any_more (note_tells tells_abort) notes n ∙ or_from (was_told tells_abort notes) (tells_abort n.reply) h.unaborted no_abort;
}

-- what answers a read of a book that isn't aborted
record IsRead (r : Reply) : Type 0 where
  ends : ends_in r ≡ tells_end r
  no_abort : tells_abort r ≡ false

read_is : (b : Arriving) (bytes : List ℕ) → IsRead (Reply.Reassembly (bytes_reply bytes b))
read_is b [] = by (is_end b.known_end b.read)
  where
    by : (over : Bool) → IsRead (Reply.Reassembly (if over then TheEnd else NoneYet))
    by true = record { ends = refl; no_abort = refl }
    by false = record { ends = refl; no_abort = refl }
read_is b (x ∷ bytes) = record { ends = refl; no_abort = refl }

reads : (b : Arriving) → b.aborted ≡ None → IsRead (Reply.Reassembly (reading b.aborted 65536 b))
reads b none =
    subst (λ (o : Option Bool). IsRead (Reply.Reassembly (reading o 65536 b))) (sym none) (read_is b (take 65536 (filled b.places)))

module _ (six : SixBooks) (a : AppState) (notes : List Note) (n : Note) (none : (reassembly_of a.side six).aborted ≡ None) (h : TellsAs a notes) where
  duty_tells : (d : AppDuty) → n.reply ≡ reply_of six (app_ask d a) → TellsAs (app_answered d (reply_of six (app_ask d a)) a) (notes ++ n ∷ [])
  duty_tells Read is =
      let r = reply_of six (app_ask Read a) in
      let read = reads (reassembly_of a.side six) none in
      record {
        told = ap (λ (b : Bool). b || ends_in r) h.told ∙ ap (λ (b : Bool). was_told tells_end notes || b) (read.ends ∙ ap tells_end (sym is))
            ∙ sym (any_more (note_tells tells_end) notes n);
        unaborted = any_more (note_tells tells_abort) notes n
            ∙ or_from (was_told tells_abort notes) (tells_abort n.reply) h.unaborted (ap tells_abort is ∙ read.no_abort);
      }
  duty_tells _ is = quiet a _ notes n refl (ap tells_end is) (ap tells_abort is) h

  -- a step of the application
  pub step_tells : (d : AppDuty) (ds : List AppDuty) → a.agenda ≡ d ∷ ds → n.reply ≡ reply_of six (app_ask d a)
      → TellsAs (app_takes (reply_of six (app_ask d a)) a) (notes ++ n ∷ [])
  step_tells d ds at is =
      let r = reply_of six (app_ask d a) in
      let m = app_answered d r a in
      let now = duty_tells d is in
      subst (λ (x : AppState). TellsAs x (notes ++ n ∷ [])) (sym (ap (λ (es : List AppDuty). app_settles_down (app_answers es r a)) at))
      (record { told = ap (λ (x : AppState). x.told) (settled_app m.agenda m).is ∙ now.told; unaborted = now.unaborted })

-- the next round begins
pub next_tells : (a : AppState) (notes : List Note) → TellsAs a notes → TellsAs (app_next_round a) notes
next_tells a notes h =
    record { told = ap (λ (x : AppState). x.told) (settled_app start_of_app (fresh_turn a)).is ∙ h.told; unaborted = h.unaborted }
