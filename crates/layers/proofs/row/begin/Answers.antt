-- `layers::row::begin` meets its contract. Assumes nothing.
use lib.ListN.{length-set}
use Rattle.layers.specs.LayerLaws.{begun}
use Rattle.layers.specs.StatesLaws.{listed-none}
use Rattle.layers.proofs.row.begin.Goals as goal

pub turn_on-requires : goal.turn_on-requires
turn_on-requires c =
    record {
      sized = record { size = c.requires.values_len; listed = listed-none };
      g_bound = c.requires.q_bound.0;
    }

pub returns : goal.returns
returns c =
    record {
      by_index = λ s h. let z = c.turn_on.ensures.by_index s h (record { size = c.requires.values_len; listed = listed-none }) in record { size = simp length-set z.size; listed = z.listed };
      begun = begun c.requires.q_bound.0 c.requires.q_bound.1 (c.turn_on.ensures.by_index 128 c.requires.q_bound.0 (record { size = c.requires.values_len; listed = listed-none })).size c.turn_on.ensures.turned_on;
    }
