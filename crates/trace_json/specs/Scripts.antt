-- A script as an object.
use Rattle.std.specs.Prelude.{List, codes, map}
use Rattle.link_script.specs.declared.script.PathLine.{PathLine}
use Rattle.link_script.specs.declared.script.Script.{Script}
use Rattle.serde_json.specs.Data.{Data, Members, boolean, number, unsigned, string, array, object, member, no_members, put}
use Rattle.serde_json.specs.View.{items_of}
use Rattle.trace_json.specs.Events.{events_data}
use Rattle.trace_json.specs.Fields.{hexadecimal}

-- ticks from one end to the other, the tick of the join, octets of the maximum segment size
abbrev pub path_data : PathLine → Data
path_data line = object (
    member (codes "backup") (boolean line.backup) (
    member (codes "delay") (number (unsigned line.delay)) (
    member (codes "join") (number (unsigned line.join)) (
    member (codes "mss") (number (unsigned line.mss)) no_members))))

abbrev pub paths_data : List PathLine → List Data
paths_data lines = map path_data lines

-- a script's settings, and the lists beside them, put to other members
abbrev pub with_settings : Script → Members → Members
with_settings script ms =
    put (codes "short") (boolean script.short) (
    put (codes "seed") (string (hexadecimal script.seed)) (
    put (codes "checksum") (boolean script.checksum) (
    put (codes "buffer") (number (unsigned script.buffer)) ms)))

abbrev pub with_script : Script → Members → Members
with_script script ms =
    put (codes "paths") (array (items_of (paths_data script.paths))) (
    put (codes "events") (array (items_of (events_data script.lines))) (with_settings script ms))

abbrev pub script_data : Script → Data
script_data script = object (
    member (codes "buffer") (number (unsigned script.buffer)) (
    member (codes "checksum") (boolean script.checksum) (
    member (codes "events") (array (items_of (events_data script.lines))) (
    member (codes "paths") (array (items_of (paths_data script.paths))) (
    member (codes "seed") (string (hexadecimal script.seed)) (
    member (codes "short") (boolean script.short) no_members))))))
