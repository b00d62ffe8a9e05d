use Rattle.trace_csv.proofs.ManifestTokens.{put_eight}
use Rattle.trace_csv.proofs.manifest.put_head.Goals as goal

pub returns-8-clause-tokens : goal.returns-8-clause-tokens
returns-8-clause-tokens c =
    put_eight c.key-4.result _ _ (record {
      one = _;
      two = _;
      three = _;
      first = c.in-Ok-tri.ensures.ok;
      second = c.in-Ok-tri-2.ensures.ok;
      third = c.in-Ok-tri-3.ensures.ok;
      fourth = c.in-Ok-tri-4.ensures.ok;
    }) (record {
      one = _;
      two = _;
      first = c.in-Ok-tri-5.ensures.ok;
      second = c.in-Ok-tri-6.ensures.ok;
      third = c.in-Ok-tri-7.ensures.ok;
    }) c.key-4.ensures.ok
