-- The sums of each direction of each path as objects.
use Rattle.std.specs.Prelude.{List, codes, map}
use Rattle.link_trace.specs.declared.rows.Rate.{Rate}
use Rattle.link_trace.specs.declared.rows.Row.{Row}
use Rattle.serde_json.specs.Data.{Data, Members, number, unsigned, string, object, member, no_members, put}
use Rattle.trace_json.specs.Fields.{number_or_null, side_letter}

-- octets of payload: all, those sent again, those that moved, those sent for the first time
abbrev pub octets_data : Row → Data
octets_data row = object (
    member (codes "again") (number (unsigned row.again)) (
    member (codes "all") (number (unsigned row.octets)) (
    member (codes "moved") (number (unsigned row.moved)) (
    member (codes "new") (number (unsigned row.fresh)) no_members))))

-- as the run ends: the smoothed round-trip time and the retransmission timeout, in ticks (RFC 6298), the slow start threshold and the
-- congestion window, in octets (RFC 5681)
abbrev pub rate_data : Rate → Data
rate_data rate = object (
    member (codes "rtt") (number_or_null rate.rtt) (
    member (codes "ssthresh") (number (unsigned rate.threshold)) (
    member (codes "timeout") (number (unsigned rate.timeout)) (
    member (codes "window") (number (unsigned rate.window)) no_members))))

-- a row's counts, and the objects beside them, put to other members
abbrev pub with_counts : Row → Members → Members
with_counts row ms =
    put (codes "segments") (number (unsigned row.segments)) (
    put (codes "path") (number (unsigned row.path)) (
    put (codes "lost") (number (unsigned row.lost)) (
    put (codes "last") (number_or_null row.last) (
    put (codes "from") (string (side_letter row.from)) (
    put (codes "first") (number_or_null row.first) ms)))))

abbrev pub with_row : Row → Members → Members
with_row row ms = put (codes "rate") (rate_data row.rate) (put (codes "octets") (octets_data row) (with_counts row ms))

-- the ticks of the first segment and of the last one, how many segments, how many of these are lost
unfoldable pub row_data : Row → Data
row_data row = object (
    member (codes "first") (number_or_null row.first) (
    member (codes "from") (string (side_letter row.from)) (
    member (codes "last") (number_or_null row.last) (
    member (codes "lost") (number (unsigned row.lost)) (
    member (codes "octets") (octets_data row) (
    member (codes "path") (number (unsigned row.path)) (
    member (codes "rate") (rate_data row.rate) (
    member (codes "segments") (number (unsigned row.segments)) no_members))))))))

abbrev pub rows_data : List Row → List Data
rows_data rows = map row_data rows
