use Rattle.std.proofs.Common.{◌∙◌, ap, map, refl}
use Rattle.std.proofs.lemmas.Result.{on_ok_weaker}
use Rattle.seen_streams.specs.Shows.{StreamKept, as_broken, stream_of}
use Rattle.seen_streams.proofs.Telling.{shown_kept}
use Rattle.seen_streams.proofs.content.show.Goals as goal

pub returns : goal.returns
returns c =
    let kept : StreamKept = record {
      broken = map as_broken c.stream.inside.broken.items;
      keys = c.stream.inside.keys;
      joins = c.stream.inside.joins;
      mappings = c.stream.inside.mappings;
      sums = c.stream.inside.sums;
      data_acks = c.stream.inside.data_acks;
      octets = c.stream.inside.octets;
      seen = c.stream.inside.seen;
      top = c.stream.inside.top;
      fin = c.stream.inside.fin;
      acknowledged = c.stream.inside.acknowledged;
      starts = c.stream.inside.starts;
      infinite = c.stream.inside.infinite;
    } in
    on_ok_weaker c.add.result
    (λ seen. shown_kept c.args.shower.now.acknowledged c.args.shower.now.packet c.args.place c.args.count c.args.part.now (stream_of c.args.stream.now)
    (stream_of kept) _ (ap stream_of c.stream.view_is ∙ c.in_ok-find_other.ensures) c.in_ok-fill.ensures.filled seen refl)
    c.add.ensures.ok
