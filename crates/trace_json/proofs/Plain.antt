-- What is told of a run has no float, and nests less deep than a reader goes.
use Rattle.std.proofs.Common.{◌≡◌, refl, ℕ, suc, ◌≤◌, Bool, true, false, ◌||◌, max, Option, Some, None, Result, Ok, Err, List, [], ◌∷◌, ◌++◌, ◌+◌, map, codes, nat_lt, if◌then◌else◌, arith, ap, ◌∙◌, subst, sym, String, string_bytes, IfOk}
use Rattle.std.proofs.lemmas.Bool.{true≢false}
use Rattle.std.specs.List.{flat_map}
use Rattle.std.specs.declared.alloc.Global.{Global}
use Rattle.serde_json.specs.Data.{Data, Members, depth, items_depth, members_depth, null, boolean, number, unsigned, string, array, object, member, no_members}
use Rattle.serde_json.specs.Read.{read}
use Rattle.serde_json.specs.View.{items_of}
use Rattle.serde_json.specs.Written.{compact_text, has_float, items_have_float, members_have_float}
use Rattle.link_model.specs.Steps.{arrivals}
use Rattle.link_trace.specs.Meanings.{meaning_in}
use Rattle.link_trace.specs.Points.{delay_on}
use Rattle.link_trace.specs.declared.carried.Carried.{Carried}
use Rattle.link_trace.specs.declared.rows.Rate.{Rate}
use Rattle.link_trace.specs.declared.rows.Row.{Row}
use Rattle.link_trace.specs.declared.sent.Sent.{Sent}
use Rattle.link_model.specs.declared.fate.SegmentFate.{SegmentFate}
use Rattle.link_script.specs.declared.script.Direction.{Direction}
use Rattle.link_script.specs.declared.script.Impairment.{Impairment}
use Rattle.link_script.specs.declared.script.Impairment.TheVariants as impaired
use Rattle.link_script.specs.declared.script.PathLine.{PathLine}
use Rattle.link_script.specs.declared.script.Script.{Script}
use Rattle.link_script.specs.declared.script.ScriptLine.{ScriptLine}
use Rattle.link_script.specs.declared.script.ScriptLine.TheVariants as line
use Rattle.mptcp_options.specs.Meaning.{option_meaning}
use Rattle.mptcp_options.specs.Value as wire
use Rattle.mptcp_options.specs.declared.dss.DataNumber.{DataNumber}
use Rattle.mptcp_options.specs.declared.dss.DssMap.{DssMap}
use Rattle.mptcp_options.specs.declared.join.JoinForm.{JoinForm}
use Rattle.mptcp_options.specs.declared.join.JoinForm.TheVariants as join
use Rattle.segment_wire.specs.Options.{mss_of, option_octets, window_scale_of}
use Rattle.segment_wire.specs.Segment.{Segment}
use Rattle.segment_wire.specs.declared.reading.SegmentFault.{SegmentFault}
use Rattle.trace_json.specs.Events.{event_data, events_data, happens_ticks, impairment_data}
use Rattle.trace_json.specs.Fields.{digits_or_null, number_or_null}
use Rattle.trace_json.specs.Multipath.{ack_data, checksum_of, ids_data, join_data, length_of, map_data, mapping_data, receiver_of, sender_of, value_data}
use Rattle.trace_json.specs.Options.{kind_data, meaning_data, option_data, scaled_data, sized_data}
use Rattle.trace_json.specs.Runs.{IsJsonOf, Run, keys_data, others_of, run_data}
use Rattle.trace_json.specs.Scripts.{path_data, paths_data, script_data}
use Rattle.trace_json.specs.Segments.{Others, arrival_at, data_of, fate_data, flags_data, options_of, place_told, segment_data, segments_data, segments_from, text_data, ticks_data, ticks_over}
use Rattle.trace_json.specs.Totals.{octets_data, rate_data, row_data, rows_data}

-- without a float, and so deep at most
IsPlain : ℕ → Data → Type 0
IsPlain n d = (has_float d ≡ false) × (depth d ≤ n)

AllPlain : ℕ → List Data → Type 0
AllPlain n ds = (items_have_float (items_of ds) ≡ false) × (items_depth (items_of ds) ≤ n)

MembersPlain : ℕ → Members → Type 0
MembersPlain n ms = (members_have_float ms ≡ false) × (members_depth ms ≤ n)

neither : (a b : Bool) → a ≡ false → b ≡ false → (a || b) ≡ false
neither false b first second = second
neither true b first second = absurd (true≢false first)

higher : (a b n : ℕ) → a ≤ n → b ≤ n → max a b ≤ n
higher a b n first second = omega (arith, first, second)

-- ---- how a value is put together

null_plain : (n : ℕ) → IsPlain n null
unfolding IsPlain
null_plain n = (refl, omega arith)

text_plain : (n : ℕ) (text : List ℕ) → IsPlain n (string text)
unfolding IsPlain
text_plain n text = (refl, omega arith)

number_plain : (n : ℕ) (m : ℕ) → IsPlain n (number (unsigned m))
unfolding IsPlain
number_plain n m = (refl, omega arith)

flag_plain : (n : ℕ) (flag : Bool) → IsPlain n (boolean flag)
unfolding IsPlain
flag_plain n flag = (refl, omega arith)

last : (n : ℕ) → MembersPlain n no_members
unfolding MembersPlain
last n = (refl, omega arith)

also : (n : ℕ) (key : List ℕ) (d : Data) (ms : Members) → IsPlain n d → MembersPlain n ms → MembersPlain n (member key d ms)
unfolding IsPlain MembersPlain
also n key d ms plain others =
    (neither (has_float d) (members_have_float ms) plain.0 others.0, higher (depth d) (members_depth ms) n plain.1 others.1)

object_plain : (n : ℕ) (ms : Members) → MembersPlain n ms → IsPlain (suc n) (object ms)
unfolding IsPlain MembersPlain
object_plain n ms plain = (plain.0, omega (arith, plain.1))

array_plain : (n : ℕ) (ds : List Data) → AllPlain n ds → IsPlain (suc n) (array (items_of ds))
unfolding IsPlain AllPlain
array_plain n ds plain = (plain.0, omega (arith, plain.1))

none_plain : (n : ℕ) → AllPlain n []
unfolding AllPlain
none_plain n = (refl, omega arith)

one_more : (n : ℕ) (d : Data) (ds : List Data) → IsPlain n d → AllPlain n ds → AllPlain n (d ∷ ds)
unfolding IsPlain AllPlain
one_more n d ds plain others =
    (neither (has_float d) (items_have_float (items_of ds)) plain.0 others.0, higher (depth d) (items_depth (items_of ds)) n plain.1 others.1)

all_plain : {A : Type 0} (n : ℕ) (f : A → Data) → ((x : A) → IsPlain n (f x)) → (xs : List A) → AllPlain n (map f xs)
all_plain n f each [] = none_plain n
all_plain n f each (x ∷ xs) = one_more n (f x) (map f xs) (each x) (all_plain n f each xs)

both_plain : (n : ℕ) (ds es : List Data) → AllPlain n ds → AllPlain n es → AllPlain n (ds ++ es)
unfolding IsPlain AllPlain
both_plain n [] es first second = second
both_plain n (d ∷ ds) es first second =
    one_more n d (ds ++ es) (head_plain n d ds first) (both_plain n ds es (tail_plain n d ds first) second)
  where
    left_false : (a b : Bool) → (a || b) ≡ false → a ≡ false
    left_false false b e = refl
    left_false true b e = absurd (true≢false e)

    right_false : (a b : Bool) → (a || b) ≡ false → b ≡ false
    right_false false b e = e
    right_false true b e = absurd (true≢false e)

    head_plain : (n : ℕ) (d : Data) (ds : List Data) → AllPlain n (d ∷ ds) → IsPlain n d
    head_plain n d ds all = (left_false (has_float d) (items_have_float (items_of ds)) all.0, omega (arith, all.1))

    tail_plain : (n : ℕ) (d : Data) (ds : List Data) → AllPlain n (d ∷ ds) → AllPlain n ds
    tail_plain n d ds all = (right_false (has_float d) (items_have_float (items_of ds)) all.0, omega (arith, all.1))

digits_plain : (n : ℕ) (o : Option ℕ) → IsPlain n (digits_or_null o)
digits_plain n None = null_plain n
digits_plain n (Some m) = text_plain n _

optional_plain : (n : ℕ) (o : Option ℕ) → IsPlain n (number_or_null o)
optional_plain n None = null_plain n
optional_plain n (Some m) = number_plain n m

-- ---- options: two deep

named_plain : (n : ℕ) (name : List ℕ) → MembersPlain n (member (codes "name") (string name) no_members)
named_plain n name = also n _ _ _ (text_plain n _) (last n)

map_plain : (m : DssMap) → IsPlain 1 (map_data m)
map_plain m = object_plain 0 _ (also 0 _ _ _ (digits_plain 0 _) (also 0 _ _ _ (number_plain 0 _) (also 0 _ _ _ (text_plain 0 _) (also 0 _ _ _ (number_plain 0 _) (last 0)))))

mapping_plain : (mapping : Option DssMap) → IsPlain 1 (mapping_data mapping)
mapping_plain None = null_plain 1
mapping_plain (Some m) = map_plain m

ack_plain : (ack : Option DataNumber) → IsPlain 1 (ack_data ack)
ack_plain None = null_plain 1
ack_plain (Some ack) = text_plain 1 _

join_plain : (form : JoinForm) → IsPlain 2 (join_data form)
join_plain (join.Syn backup id token nonce) =
    object_plain 1 _ (also 1 _ _ _ (flag_plain 1 _) (also 1 _ _ _ (number_plain 1 _) (also 1 _ _ _ (text_plain 1 _) (also 1 _ _ _ (text_plain 1 _) (also 1 _ _ _ (text_plain 1 _) (last 1))))))
join_plain (join.Answer backup id hmac nonce) =
    object_plain 1 _ (also 1 _ _ _ (flag_plain 1 _) (also 1 _ _ _ (text_plain 1 _) (also 1 _ _ _ (number_plain 1 _) (also 1 _ _ _ (text_plain 1 _) (also 1 _ _ _ (text_plain 1 _) (last 1))))))
join_plain (join.Third hmac) = object_plain 1 _ (also 1 _ _ _ (text_plain 1 _) (named_plain 1 _))

value_plain : (value : wire.OptionValue) → IsPlain 2 (value_data value)
value_plain (wire.Capable flag_a flag_c keys) =
    object_plain 1 _ (also 1 _ _ _ (digits_plain 1 (checksum_of keys)) (also 1 _ _ _ (flag_plain 1 _) (also 1 _ _ _ (optional_plain 1 (length_of keys)) (also 1 _ _ _ (text_plain 1 _)
    (also 1 _ _ _ (digits_plain 1 (receiver_of keys)) (also 1 _ _ _ (digits_plain 1 (sender_of keys)) (last 1)))))))
value_plain (wire.Join form) = join_plain form
value_plain (wire.Dss ack mapping fin) =
    object_plain 1 _ (also 1 _ _ _ (ack_plain ack) (also 1 _ _ _ (flag_plain 1 _) (also 1 _ _ _ (mapping_plain mapping) (named_plain 1 _))))
value_plain (wire.AddAddr echo id address port hmac) =
    object_plain 1 _ (also 1 _ _ _ (text_plain 1 _) (also 1 _ _ _ (flag_plain 1 _) (also 1 _ _ _ (digits_plain 1 hmac) (also 1 _ _ _ (number_plain 1 _)
    (also 1 _ _ _ (text_plain 1 _) (also 1 _ _ _ (optional_plain 1 port) (last 1)))))))
value_plain (wire.RemoveAddr ids) =
    object_plain 1 _ (also 1 _ _ _ (array_plain 0 (ids_data ids) (all_plain 0 _ (number_plain 0) ids)) (named_plain 1 _))
value_plain (wire.Prio backup) = object_plain 1 _ (also 1 _ _ _ (flag_plain 1 _) (named_plain 1 _))
value_plain (wire.Fail data_number) = object_plain 1 _ (also 1 _ _ _ (text_plain 1 _) (also 1 _ _ _ (text_plain 1 _) (last 1)))
value_plain (wire.FastClose key) = object_plain 1 _ (also 1 _ _ _ (text_plain 1 _) (named_plain 1 _))
value_plain (wire.Reset transient reason) =
    object_plain 1 _ (also 1 _ _ _ (text_plain 1 _) (also 1 _ _ _ (number_plain 1 _) (also 1 _ _ _ (flag_plain 1 _) (last 1))))

kind_plain : (option : List ℕ) → IsPlain 2 (kind_data option)
kind_plain [] = object_plain 1 _ (named_plain 1 _)
kind_plain (kind ∷ rest) = object_plain 1 _ (also 1 _ _ _ (number_plain 1 _) (named_plain 1 _))

meaning_plain : (option : List ℕ) (meaning : wire.Meaning) → IsPlain 2 (meaning_data option meaning)
meaning_plain option (wire.Known value) = value_plain value
meaning_plain option wire.Malformed = object_plain 1 _ (named_plain 1 _)
meaning_plain option wire.Unknown = kind_plain option

scaled_plain : (scale : Option ℕ) (checksums : Bool) (option : List ℕ) → IsPlain 2 (scaled_data scale checksums option)
scaled_plain (Some shift) checksums option = object_plain 1 _ (also 1 _ _ _ (text_plain 1 _) (also 1 _ _ _ (number_plain 1 _) (last 1)))
scaled_plain None checksums option = meaning_plain option (option_meaning option checksums)

sized_plain : (size : Option ℕ) (checksums : Bool) (option : List ℕ) → IsPlain 2 (sized_data size checksums option)
sized_plain (Some size) checksums option = object_plain 1 _ (also 1 _ _ _ (text_plain 1 _) (also 1 _ _ _ (number_plain 1 _) (last 1)))
sized_plain None checksums option = scaled_plain (window_scale_of option) checksums option

-- ---- segments: four deep

ticks_plain : (end : ℕ) (ticks : List ℕ) → AllPlain 1 (flat_map (arrival_at end) ticks)
ticks_plain end [] = none_plain 1
ticks_plain end (tick ∷ ticks) = both_plain 1 (arrival_at end tick) _ (arrival_plain (nat_lt tick end)) (ticks_plain end ticks)
  where
    arrival_plain : (before : Bool) → AllPlain 1 (if before then number (unsigned tick) ∷ [] else [])
    arrival_plain true = one_more 1 _ [] (number_plain 1 tick) (none_plain 1)
    arrival_plain false = none_plain 1

over_plain : (delay : Option ℕ) (end : ℕ) (s : Sent) → AllPlain 1 (ticks_over delay end s)
over_plain None end s = none_plain 1
over_plain (Some delay) end s = ticks_plain end (arrivals s.fate.arrival (s.tick + delay + s.fate.waited))

fate_plain : (f : SegmentFate) (ticks : List Data) → AllPlain 1 ticks → IsPlain 3 (fate_data f ticks)
fate_plain f ticks plain =
    object_plain 2 _ (also 2 _ _ _ (flag_plain 2 _) (also 2 _ _ _ (text_plain 2 _) (also 2 _ _ _ (flag_plain 2 _) (also 2 _ _ _ (array_plain 1 ticks plain) (last 2)))))

carried_plain : (o : Option Carried) → IsPlain 3 (data_of o)
carried_plain None = null_plain 3
carried_plain (Some c) =
    object_plain 2 _ (also 2 _ _ _ (optional_plain 2 c.acknowledged) (also 2 _ _ _ (number_plain 2 _) (also 2 _ _ _ (optional_plain 2 (place_told c)) (also 2 _ _ _ (number_plain 2 _) (last 2)))))

words_plain : (o : Option (List ℕ)) → IsPlain 3 (text_data o)
words_plain None = null_plain 3
words_plain (Some words) = text_plain 3 words

flags_plain : (meaning : Result Segment SegmentFault) → IsPlain 3 (flags_data meaning)
flags_plain (Ok segment) = text_plain 3 _
flags_plain (Err fault) = null_plain 3

options_plain : (checksums : Bool) (meaning : Result Segment SegmentFault) → AllPlain 2 (options_of checksums meaning)
options_plain checksums (Ok segment) = all_plain 2 (option_data checksums) (λ option. sized_plain (mss_of option) checksums option) (option_octets segment.options)
options_plain checksums (Err fault) = none_plain 2

segment_plain : (others : Others) (place : ℕ) (s : Sent) → IsPlain 4 (segment_data others place s)
segment_plain others place s =
    object_plain 3 _ (also 3 _ _ _ (carried_plain _) (also 3 _ _ _ (fate_plain s.fate (ticks_data others.paths others.end s) (over_plain (delay_on s.path others.paths) others.end s))
    (also 3 _ _ _ (flags_plain (meaning_in s)) (also 3 _ _ _ (text_plain 3 _) (also 3 _ _ _ (number_plain 3 _)
    (also 3 _ _ _ (array_plain 2 (options_of others.checksums (meaning_in s)) (options_plain others.checksums (meaning_in s)))
    (also 3 _ _ _ (number_plain 3 _) (also 3 _ _ _ (words_plain _) (also 3 _ _ _ (number_plain 3 _) (last 3))))))))))

segments_plain : (others : Others) (place : ℕ) (trace : List Sent) → AllPlain 4 (segments_from others place trace)
segments_plain others place [] = none_plain 4
segments_plain others place (s ∷ trace) =
    one_more 4 (segment_data others place s) (segments_from others (place + 1) trace) (segment_plain others place s) (segments_plain others (place + 1) trace)

-- ---- the other parts

path_plain : (p : PathLine) → IsPlain 3 (path_data p)
path_plain p =
    object_plain 2 _ (also 2 _ _ _ (flag_plain 2 _) (also 2 _ _ _ (number_plain 2 _) (also 2 _ _ _ (number_plain 2 _) (also 2 _ _ _ (number_plain 2 _) (last 2)))))

impairment_plain : (direction : Direction) (impairment : Impairment) → IsPlain 3 (impairment_data direction impairment)
impairment_plain direction (impaired.Rate octets queue) =
    object_plain 2 _ (also 2 _ _ _ (text_plain 2 _) (also 2 _ _ _ (text_plain 2 _) (also 2 _ _ _ (number_plain 2 _) (also 2 _ _ _ (number_plain 2 _) (also 2 _ _ _ (number_plain 2 _) (last 2))))))
impairment_plain direction (impaired.Loss parts) =
    object_plain 2 _ (also 2 _ _ _ (text_plain 2 _) (also 2 _ _ _ (text_plain 2 _) (also 2 _ _ _ (number_plain 2 _) (also 2 _ _ _ (number_plain 2 _) (last 2)))))
impairment_plain direction (impaired.Jitter ticks) =
    object_plain 2 _ (also 2 _ _ _ (text_plain 2 _) (also 2 _ _ _ (text_plain 2 _) (also 2 _ _ _ (number_plain 2 _) (also 2 _ _ _ (number_plain 2 _) (last 2)))))

event_plain : (l : ScriptLine) → IsPlain 3 (event_data l)
event_plain (line.OnSegment segment happens) =
    object_plain 2 _ (also 2 _ _ _ (text_plain 2 _) (also 2 _ _ _ (text_plain 2 _) (also 2 _ _ _ (number_plain 2 _) (also 2 _ _ _ (number_plain 2 _) (also 2 _ _ _ (optional_plain 2 (happens_ticks happens)) (last 2))))))
event_plain (line.OnDirection direction impairment) = impairment_plain direction impairment
event_plain (line.StripAll path from tick) =
    object_plain 2 _ (also 2 _ _ _ (text_plain 2 _) (also 2 _ _ _ (text_plain 2 _) (also 2 _ _ _ (number_plain 2 _) (also 2 _ _ _ (number_plain 2 _) (last 2)))))
event_plain (line.Die path tick) =
    object_plain 2 _ (also 2 _ _ _ (text_plain 2 _) (also 2 _ _ _ (number_plain 2 _) (also 2 _ _ _ (number_plain 2 _) (last 2))))
event_plain (line.Prio path side tick on) =
    object_plain 2 _ (also 2 _ _ _ (text_plain 2 _) (also 2 _ _ _ (flag_plain 2 _) (also 2 _ _ _ (number_plain 2 _) (also 2 _ _ _ (text_plain 2 _) (also 2 _ _ _ (number_plain 2 _) (last 2))))))
event_plain (line.Add id tick) =
    object_plain 2 _ (also 2 _ _ _ (text_plain 2 _) (also 2 _ _ _ (number_plain 2 _) (also 2 _ _ _ (text_plain 2 _) (also 2 _ _ _ (number_plain 2 _) (last 2)))))
event_plain (line.Remove side id tick) =
    object_plain 2 _ (also 2 _ _ _ (text_plain 2 _) (also 2 _ _ _ (number_plain 2 _) (also 2 _ _ _ (text_plain 2 _) (also 2 _ _ _ (number_plain 2 _) (last 2)))))
event_plain (line.FastClose side tick) =
    object_plain 2 _ (also 2 _ _ _ (text_plain 2 _) (also 2 _ _ _ (text_plain 2 _) (also 2 _ _ _ (number_plain 2 _) (last 2))))

script_plain : (script : Script) → IsPlain 5 (script_data script)
script_plain script =
    object_plain 4 _ (also 4 _ _ _ (number_plain 4 _) (also 4 _ _ _ (flag_plain 4 _) (also 4 _ _ _ (array_plain 3 (events_data script.lines) (all_plain 3 event_data event_plain script.lines))
    (also 4 _ _ _ (array_plain 3 (paths_data script.paths) (all_plain 3 path_data path_plain script.paths)) (also 4 _ _ _ (text_plain 4 _) (also 4 _ _ _ (flag_plain 4 _) (last 4)))))))

octets_plain : (row : Row) → IsPlain 3 (octets_data row)
octets_plain row =
    object_plain 2 _ (also 2 _ _ _ (number_plain 2 _) (also 2 _ _ _ (number_plain 2 _) (also 2 _ _ _ (number_plain 2 _) (also 2 _ _ _ (number_plain 2 _) (last 2)))))

rate_plain : (rate : Rate) → IsPlain 3 (rate_data rate)
rate_plain rate =
    object_plain 2 _ (also 2 _ _ _ (optional_plain 2 rate.rtt) (also 2 _ _ _ (number_plain 2 _) (also 2 _ _ _ (number_plain 2 _) (also 2 _ _ _ (number_plain 2 _) (last 2)))))

row_plain : (row : Row) → IsPlain 4 (row_data row)
unfolding row_data
row_plain row =
    object_plain 3 _ (also 3 _ _ _ (optional_plain 3 row.first) (also 3 _ _ _ (text_plain 3 _) (also 3 _ _ _ (optional_plain 3 row.last) (also 3 _ _ _ (number_plain 3 _)
    (also 3 _ _ _ (octets_plain row) (also 3 _ _ _ (number_plain 3 _) (also 3 _ _ _ (rate_plain row.rate) (also 3 _ _ _ (number_plain 3 _) (last 3)))))))))

keys_plain : (a b : ℕ) → IsPlain 5 (keys_data a b)
keys_plain a b = object_plain 4 _ (also 4 _ _ _ (text_plain 4 _) (also 4 _ _ _ (text_plain 4 _) (last 4)))

whole_plain : (run : Run) → IsPlain 6 (run_data run)
whole_plain run =
    object_plain 5 _ (also 5 _ _ _ (number_plain 5 _) (also 5 _ _ _ (keys_plain run.key_a run.key_b) (also 5 _ _ _ (script_plain run.script)
    (also 5 _ _ _ (array_plain 4 (segments_data (others_of run) run.trace) (segments_plain (others_of run) 0 run.trace)) (also 5 _ _ _ (keys_plain _ _)
    (also 5 _ _ _ (array_plain 4 (rows_data run.rows) (all_plain 4 row_data row_plain run.rows)) (last 5)))))))

pub no_float : (run : Run) → has_float (run_data run) ≡ false
unfolding IsPlain
no_float run = (whole_plain run).0

pub few_levels : (run : Run) → depth (run_data run) ≤ 127
unfolding IsPlain
few_levels run = omega (arith, (whole_plain run).1)

-- what is written of such an object is the JSON of the run
pub written : (run : Run) (d : Data) (text : List ℕ) → d ≡ run_data run → (has_float d ≡ false → text ≡ compact_text d) → (depth d ≤ 127 → read text ≡ Some d)
    → IsJsonOf run text
written run d text same exact back =
    (exact (ap has_float same ∙ no_float run) ∙ ap compact_text same, back (subst (λ x. depth x ≤ 127) (sym same) (few_levels run)) ∙ ap Some same)

-- the text that a call answers is that of the run's object
pub written_ok : {E : Type 0} (run : Run) (d : Data) (answer : Result (String Global) E) → d ≡ run_data run
    → IfOk answer (λ text. has_float d ≡ false → string_bytes text ≡ compact_text d) → IfOk answer (λ text. depth d ≤ 127 → read (string_bytes text) ≡ Some d)
    → IfOk answer (λ text. IsJsonOf run (string_bytes text))
written_ok run d (Ok text) same exact back = written run d (string_bytes text) same exact back
written_ok run d (Err fault) same exact back = tt
