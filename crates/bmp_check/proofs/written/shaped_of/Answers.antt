use Rattle.bmp_check.proofs.written.shaped_of.Goals as goal

pub returns-clause-whole : goal.returns-clause-whole
returns-clause-whole c = record {
  checkable = c.requires.checkable;
  count = c.requires.count;
  shape = c.requires.shape;
  sizes = c.requires.sizes;
  sheaf = c.requires.sheaf;
}
