-- No mapping that an end of a path hears gives a position another place than the one that it learned.
use Rattle.world_laws.proofs.Words.{sym, subst, arith, Side, end_at, Carried, values, in_map, App, Path, Actor, Start, opened_world, WorldState, world_run}
use Rattle.world_laws.proofs.Words.{HoldsAnywayOfOctets, HoldsAnyway, shown_crew, shown_member, shown_world}
use Rattle.world_laws.specs.Agreement.{EndsAgree, MappingsAgree, NothingClashes}
use Rattle.world_laws.proofs.Lanes.Beginning.{each_run_shows}
use Rattle.world_laws.proofs.Worlds.CastLifting.{each_actor}
use Rattle.world_laws.proofs.Lanes.OfAWorld.{anyhow_free, free_run, Links, WorldShows, anyhow}
use Rattle.world_laws.proofs.Places.Known.{agrees_so}
use Rattle.world_laws.proofs.Promises.Made.{run_fresh}

-- what a world shows of each path, its ends agree on
pub shows_agreement : (links : Links) (start : Start) (w : WorldState Carried) {d : _} → WorldShows links start d w → MappingsAgree w
shows_agreement links start w h = subst MappingsAgree (sym h.is) (record {
  each = each_actor (λ actor c. EndsAgree c.member) h.cast tt tt (λ number x there. let path = h.paths.each number number x (omega arith) there in agrees_so path.ab path.ba x.path path.knows);
})

-- ---- the law

pub mappings_agree : HoldsAnyway MappingsAgree
mappings_agree start turns size = shows_agreement _ start (world_run values turns (opened_world start)) (each_run_shows start (anyhow start size) turns (free_run (anyhow start size).links (anyhow_free start size) turns (opened_world start))).shows

shown_agrees : (m : Actor Carried) → EndsAgree m → EndsAgree (shown_member m)
shown_agrees (App a) h = tt
shown_agrees (Path p) h = by
  where
    by : (s : Side) → NothingClashes (end_at s p).receiving.mappings
    by s = h s

world_agrees : (w : WorldState Carried) → MappingsAgree w → MappingsAgree (shown_world w)
world_agrees w h = record {
  each = λ i c there. let found = in_map shown_crew w.crew i c there in subst (λ y. EndsAgree y.member) found.2 (shown_agrees found.0.member (h.each i found.0 found.1));
}

pub mappings_agree_in_octets : HoldsAnywayOfOctets MappingsAgree
mappings_agree_in_octets start turns size fit =
    subst MappingsAgree (sym (run_fresh start turns size fit)) (world_agrees (world_run values turns (opened_world start)) (mappings_agree start turns size))
