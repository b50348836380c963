use Rattle.std.proofs.Common.{◌≡◌, ◌≤◌, map}
use Rattle.std.specs.List.{range_with_len}
use Rattle.sgb_induced.specs.Image.{start}
use Rattle.sgb_induced.specs.Private.Run.{image_of}
use Rattle.sgb_induced.proofs.image.place_images.Given as goal

abbrev pub invariant-loop-v : goal.invariant-loop-v
invariant-loop-v l = record {
  images : l.images.items ≡ map (image_of l.fates) (range_with_len 0 l.v);
  next : l.next ≡ start l.fates l.v;
  few : l.next ≤ 65535;
}
