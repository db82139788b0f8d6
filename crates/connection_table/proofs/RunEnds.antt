-- How a run of a list ends: from its loads, its rounds and its lines.
use Rattle.std.proofs.Common.{◌≡◌, refl, sym, subst, ℕ, ◌⊎◌, inl, inr, List, [], ◌∷◌, ◌++◌, map}
use Rattle.std.specs.List.{All}
use Rattle.std.specs.Prelude.{IfOk, IfSome, ◌≢◌}
use Rattle.std.proofs.lemmas.List.Elements.{All-nil, All-cons}
use Rattle.std.proofs.lemmas.Option.{IfSome_then}
use Rattle.outside_kit.specs.Calls.{Call}
use Rattle.outside_kit.specs.Outside.{Told, HasRisen, HoldsAfter, HoldsPrefix}
use Rattle.outside_kit.specs.declared.port.Port.TheVariants.{Log}
use Rattle.run_outside.specs.declared.input.Input.{Input}
use Rattle.connection_table.specs.Lists.{Names}
use Rattle.connection_table.specs.ListWords.{NamedList}
use Rattle.connection_table.specs.declared.many.Many.{Many}
use Rattle.connection_table.specs.declared.many.Many.TheVariants.{Done, Usage, Load, TooLong, List as Listing, Script, SameToken, Put, Memory}
use Rattle.connection_table.specs.Inputs.{Contents, IsShort}
use Rattle.connection_table.specs.Loads.{ListAdds}
use Rattle.connection_table.specs.Scripts.{LeavesPayload}
use Rattle.connection_table.proofs.Adding.{all_cut}
use Rattle.connection_table.specs.ManyEnds.{AreAdmitted, AreInputs, AreOfList, AreSerial, AtFault, IsEnd, IsListedFault, IsLoadingFault, IsOfListed, IsPutFault, IsTableOf, PutAdds, Says, loads_of_list, puts_from}
use Rattle.connection_table.specs.ManyLines.{lines_of, state_of}
use Rattle.connection_table.specs.ManyRounds.{EachRound, IsSerialEnd}
use Rattle.connection_table.specs.Tables.{Entry, opened_entry}
use Rattle.connection_table.proofs.CallsMade.{cut_behind, failed_behind}
use Rattle.connection_table.proofs.EndsRight.{all_end_right}
use Rattle.run_outside.specs.Plan.{AddsAll}
use Rattle.run_outside.proofs.Calls.{all_then}

-- ---- before any line is put

module _ (content : Contents) (words : NamedList) (old new : ℕ) (bytes : List ℕ) (whole : IfSome (content words.list) (λ told. bytes ≡ told)) (names : List Names)
    (read : Says bytes names) where
  of_listed : (many : Many) → IsListedFault content names old new many → IsOfListed content words old new many
  of_listed many fault = IfSome_then (content words.list) whole (λ told is. (names, (subst (λ xs. Says xs names) is read, fault)))

  -- what holds of the cause of one of its connections
  caused : (many : Many) (P : Type 0) → many ≢ Memory → ((inputs : List Input) (at : Names) → AtFault content inputs at old new many → P)
      → IsListedFault content names old new many → P
  caused many P not f fault = by fault.cause
    where
      by : (many ≡ Memory) ⊎ ((at : Names) × ((behind : List Names) × ((names ≡ fault.before ++ at ∷ behind) × AtFault content fault.inputs at old new many))) → P
      by (inl memory) = absurd (not memory)
      by (inr h) = f fault.inputs h.0 h.1.1.1

  -- a connection of it can't be loaded, read or admitted
  pub one_refused : (many : Many) → IsListedFault content names old new many → IsLoadingFault content words old new many
  one_refused (Load line) fault = (
    caused (Load line) (HasRisen old new) (λ e. cc) (λ inputs at h. h.1) fault,
    inr (of_listed (Load line) fault),
  )
  one_refused (TooLong line) fault = inr (of_listed (TooLong line) fault)
  one_refused (Script entry line kind) fault = of_listed (Script entry line kind) fault
  one_refused (SameToken line holder) fault = of_listed (SameToken line holder) fault
  one_refused Memory fault = tt
  one_refused (Listing line) fault = absurd (caused (Listing line) ⊥ (λ e. cc) (λ inputs at h. h) fault)
  one_refused Done fault = caused Done ⊥ (λ e. cc) (λ inputs at h. h) fault
  one_refused Usage fault = caused Usage ⊥ (λ e. cc) (λ inputs at h. h) fault
  one_refused Put fault = caused Put ⊥ (λ e. cc) (λ inputs at h. h) fault

-- what they begin with is within the limit, and leaves payload as it is
all_short : (content : Contents) (names : List Names) (inputs : List Input) → AreInputs content names inputs → All IsShort inputs
all_short content [] [] are = All-nil IsShort
all_short content [] (x ∷ inputs) are = absurd are
all_short content (n ∷ names) [] are = absurd are
all_short content (n ∷ names) (x ∷ inputs) are = All-cons IsShort x inputs are.0.short (all_short content names inputs are.1)

abbrev Leaves : Input → Type 0
Leaves input = LeavesPayload input.script

all_leave : (content : Contents) (names : List Names) (inputs : List Input) → AreInputs content names inputs → All Leaves inputs
all_leave content [] [] are = All-nil Leaves
all_leave content [] (x ∷ inputs) are = absurd are
all_leave content (n ∷ names) [] are = absurd are
all_leave content (n ∷ names) (x ∷ inputs) are = All-cons Leaves x inputs are.0.leaves (all_leave content names inputs are.1)

-- all of them were admitted, behind the loads of all
pub table_of : (words : NamedList) (bytes : List ℕ) (names : List Names) (table : List Entry) (old new : Told)
    → IfSome (old.content words.list) (λ told. bytes ≡ told) → Says bytes names → AddsAll (loads_of_list words names) old.calls new.calls
    → AreAdmitted old.content names table → IsTableOf words old new table
table_of words bytes names table old new whole read calls are = record {
  names = names;
  inputs = are.inputs;
  listed = record {
    said = IfSome_then (old.content words.list) whole (λ told is. subst (λ xs. Says xs names) is read);
    are = are.are;
    short = all_short old.content names are.inputs are.are;
    leave = all_leave old.content names are.inputs are.are;
    apart = are.apart;
  };
  table_is = are.table_is;
  calls = calls;
}

-- ---- the rounds

serial_of : (most : ℕ) (inputs : List Input) (table : List Entry) → EachRound (IsSerialEnd most) (map opened_entry inputs) table → AreSerial most inputs (map state_of table)
serial_of most [] [] each = tt
serial_of most [] (e ∷ table) each = absurd each
serial_of most (input ∷ inputs) [] each = absurd each
serial_of most (input ∷ inputs) (e ∷ table) each = (each.0.state, serial_of most inputs table each.1)

pub of_list : (words : NamedList) (old new : Told) (before after : List Entry) → IsTableOf words old new before
    → EachRound (IsSerialEnd words.rounds) before after → AreOfList old.content words (map state_of after)
of_list words old new before after of each =
    let serial = serial_of words.rounds of.inputs after (subst (λ es. EachRound (IsSerialEnd words.rounds) es after) of.table_is each) in
    record {
      names = of.names;
      inputs = of.inputs;
      listed = of.listed;
      serial = serial;
      right = all_end_right words.rounds of.inputs (map state_of after) of.listed.short of.listed.leave serial;
    }

-- ---- the end

module _ (words : NamedList) (old new : Told) where
  -- nothing was put
  pub ends_unput : (many : Many) → IsLoadingFault old.content words old.load_faults new.load_faults many → new.holds Log ≡ old.holds Log
      → ListAdds old.content words old.calls new.calls many → IsEnd words old new many
  ends_unput Memory fault same calls = inl (record { log_is = same; calls_made = calls })
  ends_unput (Load line) fault same calls = (fault, record { log_is = same; calls_made = calls })
  ends_unput (TooLong line) fault same calls = (fault, record { log_is = same; calls_made = calls })
  ends_unput (Listing line) fault same calls = (fault, record { log_is = same; calls_made = calls })
  ends_unput (Script entry line kind) fault same calls = (fault, record { log_is = same; calls_made = calls })
  ends_unput (SameToken line holder) fault same calls = (fault, record { log_is = same; calls_made = calls })
  ends_unput _ fault same calls = absurd fault

  -- memory was wanting in the rounds, behind all loads
  pub ends_unmade : (table : List Entry) → IsTableOf words old new table → new.holds Log ≡ old.holds Log → IsEnd words old new Memory
  ends_unmade table of same =
      inl (record {
        log_is = same;
        calls_made = record {
          names = of.names;
          said = IfSome_then (old.content words.list) of.listed.said (λ told says. subst (λ r. IfOk r (λ read. of.names ≡ read)) (sym says.1) refl);
          adds = all_cut (loads_of_list words of.names) old.calls new.calls of.calls;
        };
      })

  module _ (middle : Told) (before table : List Entry) (of : IsTableOf words old middle before) (made : EachRound (IsSerialEnd words.rounds) before table) where
    abbrev ended : AreOfList old.content words (map state_of table)
    ended = of_list words old middle before table of made

    abbrev puts : List Call
    puts = puts_from 0 (map state_of table)

    pub ends_done : HoldsAfter (old.holds Log) (new.holds Log) (λ text. text ++ lines_of table) → AddsAll puts middle.calls new.calls → IsEnd words old new Done
    unfolding of_list
    ends_done lines calls =
        record { worlds = map state_of table; of = ended; lines = lines; calls_made = all_then (loads_of_list words of.names) puts old.calls middle.calls new.calls of.calls calls }

    pub ends_cut : (many : Many) → HoldsPrefix (old.holds Log) (new.holds Log) (lines_of table) → IsPutFault (old.port_faults Log) (new.port_faults Log) many
        → PutAdds puts middle.calls new.calls many → IsEnd words old new many
    unfolding of_list
    ends_cut Put part fault calls =
        (fault, record { worlds = map state_of table; of = ended; lines = part; calls_made = failed_behind (loads_of_list words of.names) puts old.calls middle.calls new.calls of.calls calls })
    ends_cut Memory part fault calls =
        inr (record { worlds = map state_of table; of = ended; lines = part; calls_made = cut_behind (loads_of_list words of.names) puts old.calls middle.calls new.calls of.calls calls })
    ends_cut _ part fault calls = absurd fault
