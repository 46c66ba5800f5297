-- What is marked and what is in the queue, after so many units of the queue.
use Rattle.std.proofs.Common.{◌≡◌, ◌+◌, ◌-◌, ◌<◌, ◌≤◌, length, map, take, get_or}
use Rattle.unit_order.specs.Positions.{views}
use Rattle.unit_order.proofs.Spread.{Spread, AreMarked}
use Rattle.unit_order.proofs.cycle.leads_back.Given as goal

abbrev pub invariant-loop-done : goal.invariant-loop-done
invariant-loop-done l = record {
  spread : Spread (views l.units) (map (λ list. list.items) l.needs) l.start l.marked.items l.queue.items l.done;
  within : l.done ≤ length l.queue.items;
}

abbrev pub decreases-loop-done : goal.decreases-loop-done
decreases-loop-done l = length l.units + 1 - l.done

abbrev pub invariant-loop-next : goal.invariant-loop-next
invariant-loop-next l = record {
  spread : Spread (views l.units) (map (λ list. list.items) l.needs) l.start l.marked.items l.queue.items l.done;
  within : l.done < length l.queue.items;
  at : l.at ≡ get_or l.queue.items l.done 0;
  marks : AreMarked l.marked.items (take l.next-index l.next-items);
}
