use native.Mathlib.Omega.{arith}
use Rattle.dir_block_test.proofs.EarlyTests.{end_1, sizes, end_2, end_4, end_4', block_parts, end_span}
use Rattle.dir_block_test.proofs.check.Goals as goal

pub returns-then-not-block_sized : goal.returns-then-not-block_sized
returns-then-not-block_sized c = end_1 _ c.requires _ _ c.block_sized.ensures c.if-not-block_sized.true

pub be32-requires : goal.be32-requires
be32-requires c = omega (arith, sizes c.args.e c.requires c.args.b.now _ c.block_sized.ensures c.if-not-block_sized.false)

pub returns-then-be32-e : goal.returns-then-be32-e
returns-then-be32-e c = end_2 _ c.requires _ _ c.block_sized.ensures c.if-not-block_sized.false _ c.be32.ensures.0 c.if-be32-e.true

pub overflow_sub-len : goal.overflow_sub-len
overflow_sub-len c = omega (arith, sizes c.args.e c.requires c.args.b.now _ c.block_sized.ensures c.if-not-block_sized.false)

pub be32-n-requires : goal.be32-n-requires
be32-n-requires c = omega (arith, sizes c.args.e c.requires c.args.b.now _ c.block_sized.ensures c.if-not-block_sized.false)

pub overflow_sub-len-2 : goal.overflow_sub-len-2
overflow_sub-len-2 c = omega (arith, sizes c.args.e c.requires c.args.b.now _ c.block_sized.ensures c.if-not-block_sized.false)

pub be32-m-requires : goal.be32-m-requires
be32-m-requires c = omega (arith, sizes c.args.e c.requires c.args.b.now _ c.block_sized.ensures c.if-not-block_sized.false)

pub overflow_add-e : goal.overflow_add-e
overflow_add-e c = omega (arith, c.requires.header_most)

pub overflow_add-e-2 : goal.overflow_add-e-2
overflow_add-e-2 c = omega (arith, c.requires.header_most)

pub returns-then-len-e : goal.returns-then-len-e
returns-then-len-e c = end_4 _ c.requires _ _ c.block_sized.ensures c.if-not-block_sized.false _ c.be32.ensures.0 c.if-be32-e.false _ _ c.be32-n.ensures.0
    c.be32-m.ensures.0 c.if-len-e.true

pub returns-then-n-m : goal.returns-then-n-m
returns-then-n-m c = end_4' _ c.requires _ _ c.block_sized.ensures c.if-not-block_sized.false _ c.be32.ensures.0 c.if-be32-e.false _ _ c.be32-n.ensures.0
    c.be32-m.ensures.0 c.if-len-e.false c.if-n-m.true

pub invariant_of-block : goal.invariant_of-block
invariant_of-block c = record {
  sane = c.requires;
  parts = block_parts _ c.requires _ _ c.block_sized.ensures c.if-not-block_sized.false _ c.be32.ensures.0 c.if-be32-e.false _ _ c.be32-n.ensures.0 c.be32-m.ensures.0 c.if-len-e.false;
  counted = c.if-n-m.false;
}

pub returns : goal.returns
returns c = end_span _ c.requires _ _ c.block_sized.ensures c.if-not-block_sized.false _ c.be32.ensures.0 c.if-be32-e.false _ _
    c.be32-n.ensures.0 c.be32-m.ensures.0 c.if-len-e.false c.if-n-m.false _ c.test_data.ensures
