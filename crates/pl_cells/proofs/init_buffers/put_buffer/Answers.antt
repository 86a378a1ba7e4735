use Rattle.pl_cells.proofs.MadeLaws.{put_made}
use Rattle.pl_cells.proofs.init_buffers.put_buffer.Goals as goal

pub returns-clause-put : goal.returns-clause-put
returns-clause-put c =
    put_made c.push_made.result c.buffer_at-made.result c.args.buffers.now.items c.push_made.new.items.items _ c.push_made.ensures.made c.buffer_at-made.ensures.empty c.push_made.ensures.pushed
