-- Which captured segments belong together: flows, and the connections whose subflows they are (RFC 8684, sections 3.1 and 3.2).
use Rattle.std.specs.Prelude.{ℕ, ◌+◌, ◌≤◌, Bool, true, false, not, ◌&&◌, ◌||◌, ◌==◌, is_none, if◌then◌else◌, Option, Some, None, List, [], ◌∷◌, ◌++◌, length, ◌≡◌, IfSome}
use Rattle.std.proofs.Math.ListN.{set}
use Rattle.std.specs.List.{All, slice_get, sum_by}
use Rattle.std.specs.Option.{option_or}
use Rattle.sides.specs.declared.side.Side.{Side}
use Rattle.sides.specs.declared.side.Side.TheVariants.{A, B}
use Rattle.key_material.specs.KeyDigest.{token_of}
use Rattle.key_material.specs.JoinHmac.{join_b64_of}
use Rattle.segment_wire.specs.Options.{option_octets}
use Rattle.capture_reader.specs.Seen.{Seen}
use Rattle.seen_connections.specs.declared.asked.Answer.{Answer}
use Rattle.seen_connections.specs.declared.asked.Answer.TheVariants as answer
use Rattle.seen_connections.specs.declared.asked.JoinAnswer.{JoinAnswer}
use Rattle.seen_connections.specs.declared.flow.Belongs.{Belongs}
use Rattle.seen_connections.specs.declared.flow.Flow.{Flow}
use Rattle.seen_connections.specs.declared.flow.Opened.{Opened}
use Rattle.seen_connections.specs.declared.flow.Opening.{Opening}
use Rattle.seen_connections.specs.declared.flow_list.Found.{Found}
use Rattle.seen_connections.specs.declared.known_keys.KnownKey.{KnownKey}
use Rattle.seen_connections.specs.declared.connections.Answered.{Answered}
use Rattle.seen_connections.specs.declared.connections.Keys.{Keys}
use Rattle.seen_connections.specs.declared.connections.Place.{Place}
use Rattle.seen_connections.specs.declared.connections.WrongToken.{WrongToken}
use Rattle.seen_connections.specs.SameEnds.{same_end, ends_in}
use Rattle.seen_connections.specs.Flows.{begun, counted, ends_of, behind, is_again, is_acknowledged_by, flow_between}
use Rattle.seen_connections.specs.Keys.{belongs_by}
use Rattle.seen_connections.specs.Asked.{first_asked, first_answer}

-- all flows and connections in the order in which they began, the keys in that in which they became known, and the number of the
-- packet that was taken last
pub record SeenFlows : Type 0 where
  pub flows : List Flow
  pub connections : List Keys
  pub known : List KnownKey
  pub last : ℕ

-- what a segment leaves, and what it is in its flow, if it is of one that is judged
pub record Taken : Type 0 where
  pub now : SeenFlows
  pub place : Option Place

abbrev pub nothing_seen : SeenFlows
nothing_seen = record { flows = []; connections = []; known = []; last = 0 }

-- the key of a side, where it is known
abbrev pub key_of : Side → Keys → Option ℕ
key_of A keys = keys.a
key_of B keys = Some keys.b

-- ---- a SYN

-- a SYN without ACK and RST
abbrev pub is_syn : Seen → Bool
is_syn seen = seen.segment.head.syn && (not seen.segment.head.ack_set && not seen.segment.head.rst)

-- the SYN of the flow that was found, again
abbrev pub is_again_of : Seen → Option Found → Bool
is_again_of seen None = false
is_again_of seen (Some found) = is_again seen found.flow

abbrev pub begins : Seen → Option Found → Bool
begins seen found = is_syn seen && not (is_again_of seen found)

-- the flow that was found is over
abbrev pub ended : Option Found → List Flow → List Flow
ended None flows = flows
ended (Some found) flows = set flows found.index (record found.flow { is_over = true })

-- A SYN that asks for Multipath TCP begins a flow, one that asks for nothing ends the one between its ends.
abbrev pub begun_with : SeenFlows → ℕ → Seen → Option Found → Option Opening → Taken
begun_with state packet seen found (Some opening) = record {
  now = record state { flows = state.flows ++ begun packet seen opening (belongs_by opening state.known) ∷ []; last = packet };
  place = Some (record { flow = length state.flows; wrong_token = None });
}
begun_with state packet seen found None = record { now = record state { flows = ended found state.flows; last = packet }; place = None }

abbrev pub started : SeenFlows → ℕ → Seen → Option Found → Taken
started state packet seen found = begun_with state packet seen found (first_asked (option_octets seen.segment.options))

-- ---- a SYN/ACK

-- what a segment answers to the SYN of its flow: a SYN/ACK of the other end, which acknowledges the SYN, where none opened the flow before
abbrev pub answer_of : Seen → Flow → Option Answer
answer_of seen flow =
    if not seen.segment.head.syn || (not seen.segment.head.ack_set || not (is_none flow.opened)) then None
    else (if not (same_end seen.source flow.other) || not (is_acknowledged_by seen.segment.head.ack flow) then None
    else first_answer flow.opening (option_octets seen.segment.options))

-- the numbers of both positions 0, and the nonce
abbrev pub opened_by : Seen → ℕ → Opened
opened_by seen nonce = record { opener_base = behind seen.segment.head.ack 1; other_base = seen.segment.head.seq; nonce = nonce }

-- whose keys make the HMAC of a join's SYN/ACK: B as the receiver is tried before A
abbrev pub instead_of : ℕ → Side → ℕ → ℕ → JoinAnswer → WrongToken
instead_of connection opener key packet join =
    record { belongs = record { connection = connection; opener = opener }; packet = packet; expected = token_of key; was = join.token }

-- the keys of both sides make the HMAC of a SYN/ACK, where this one opened the join
unfoldable pub makes_hmac : ℕ → ℕ → JoinAnswer → Bool
makes_hmac opener receiver join = join_b64_of opener receiver join.nonce join.answer == join.hmac

abbrev pub wrong_token_with : ℕ → ℕ → ℕ → ℕ → JoinAnswer → Option WrongToken
wrong_token_with connection a b packet join =
    if makes_hmac a b join then Some (instead_of connection A b packet join)
    else (if makes_hmac b a join then Some (instead_of connection B a packet join) else None)

abbrev pub wrong_token_if : ℕ → Option ℕ → ℕ → ℕ → JoinAnswer → Option WrongToken
wrong_token_if connection None b packet join = None
wrong_token_if connection (Some a) b packet join = wrong_token_with connection a b packet join

abbrev pub wrong_token_by : ℕ → Keys → ℕ → JoinAnswer → Option WrongToken
wrong_token_by connection keys packet join = wrong_token_if connection keys.a keys.b packet join

-- by the first connection, where they are counted from a number on
abbrev pub wrong_token : ℕ → List Keys → ℕ → JoinAnswer → Option WrongToken
wrong_token connection [] packet join = None
wrong_token connection (keys ∷ others) packet join =
    option_or (wrong_token_by connection keys packet join) (wrong_token (connection + 1) others packet join)

-- a join's flow is open; where its token named no connection it is that of the wrong token
abbrev pub tied : Opened → Option Belongs → Option WrongToken → Answered
tied opened (Some belongs) wrong = record { belongs = Some belongs; opened = Some opened; wrong_token = None }
tied opened None (Some wrong) = record { belongs = Some wrong.belongs; opened = Some opened; wrong_token = Some wrong }
tied opened None None = record { belongs = None; opened = Some opened; wrong_token = None }

-- what an answer makes of its flow
abbrev pub answered : SeenFlows → Seen → Flow → Option Answer → Answered
answered state seen flow None = record { belongs = flow.belongs; opened = flow.opened; wrong_token = None }
answered state seen flow (Some (answer.Key key checksums)) = record {
  belongs = Some (record { connection = length state.connections; opener = A });
  opened = Some (opened_by seen 0);
  wrong_token = None;
}
answered state seen flow (Some (answer.Join join)) =
    tied (opened_by seen join.answer) flow.belongs (wrong_token 0 state.connections flow.first join)

-- a connection begins with the SYN/ACK of its first flow, and B's key is known
abbrev pub connections_after : SeenFlows → ℕ → Option Answer → List Keys
connections_after state flow None = state.connections
connections_after state flow (Some (answer.Key key checksums)) =
    state.connections ++ record { a = None; b = key; checksums = checksums; flow = flow } ∷ []
connections_after state flow (Some (answer.Join join)) = state.connections

abbrev pub known_after : SeenFlows → Option Answer → List KnownKey
known_after state None = state.known
known_after state (Some (answer.Key key checksums)) =
    state.known ++ record { token = token_of key; connection = length state.connections; side = B } ∷ []
known_after state (Some (answer.Join join)) = state.known

-- ---- a segment of a flow

-- a reset by the other end
abbrev pub resets : Seen → Flow → Bool
resets seen flow = seen.segment.head.rst && same_end seen.source flow.other

abbrev pub flow_after : Seen → Answered → Flow → Flow
flow_after seen answered flow =
    record flow { belongs = answered.belongs; opened = answered.opened; was_reset = flow.was_reset || resets seen flow }

-- a segment whose sum is good, which this answers to the SYN of a flow that counts it
abbrev pub followed_by : SeenFlows → ℕ → Seen → ℕ → Flow → Option Answer → Taken
followed_by state packet seen index flow answer = record {
  now = record {
    flows = set state.flows index (flow_after seen (answered state seen flow answer) flow);
    connections = connections_after state index answer;
    known = known_after state answer;
    last = packet;
  };
  place = Some (record { flow = index; wrong_token = (answered state seen flow answer).wrong_token });
}

abbrev pub followed : SeenFlows → ℕ → Seen → ℕ → Flow → Taken
followed state packet seen index flow = followed_by state packet seen index flow (answer_of seen flow)

-- a segment that begins no flow: one whose sum is wrong is counted alone
abbrev pub gone_on : SeenFlows → ℕ → Seen → Bool → Option Found → Taken
gone_on state packet seen is_good None = record { now = record state { last = packet }; place = None }
gone_on state packet seen true (Some found) = followed state packet seen found.index (counted seen.is_cut true found.flow)
gone_on state packet seen false (Some found) = record {
  now = record state { flows = set state.flows found.index (counted seen.is_cut false found.flow); last = packet };
  place = None;
}

abbrev pub taken_in : SeenFlows → ℕ → Seen → Bool → Option Found → Taken
taken_in state packet seen is_good found =
    if is_good && begins seen found then started state packet seen found else gone_on state packet seen is_good found

-- the segment of a packet, whose sum is good or not
abbrev pub taken : SeenFlows → ℕ → Seen → Bool → Taken
taken state packet seen is_good = taken_in state packet seen is_good (flow_between (ends_in seen) state.flows)

-- ---- A's key becomes known

abbrev pub learnt_by : SeenFlows → ℕ → ℕ → Option Keys → SeenFlows
learnt_by state connection a None = state
learnt_by state connection a (Some keys) = record state {
  connections = set state.connections connection (record keys { a = Some a });
  known = state.known ++ record { token = token_of a; connection = connection; side = A } ∷ [];
}

abbrev pub learnt : SeenFlows → ℕ → ℕ → SeenFlows
learnt state connection a = learnt_by state connection a (slice_get state.connections connection)

-- ---- counts

-- cut packets and wrong sums are of its packets
pub record HasCounts (flow : Flow) : Type 0 where
  pub cut : flow.cut ≤ flow.packets
  pub wrong : flow.wrong_sums ≤ flow.packets

-- a flow in the place of another one: between the same ends, with one packet more at most
pub record IsNext (was flow : Flow) : Type 0 where
  pub ends : ends_of flow ≡ ends_of was
  pub packets : flow.packets ≤ was.packets + 1
  pub counts : HasCounts flow

-- each packet is of one flow at most
pub record IsCounted (flows : List Flow) (last : ℕ) : Type 0 where
  pub total : sum_by (λ flow. flow.packets) flows ≤ last
  pub each : All HasCounts flows

-- what was found is there
abbrev pub IsThere : List Flow → Option Found → Type 0
IsThere flows found = IfSome found (λ f. slice_get flows f.index ≡ Some f.flow)
