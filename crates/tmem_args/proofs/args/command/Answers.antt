use Rattle.clap.specs.Simple.{with_subcommand}
use Rattle.tmem_args.specs.CommandLine.{bench_words, check_words, init_words, program_alone, run_words, serve_words, show_words, threads_words}
use Rattle.tmem_args.proofs.args.command.Goals as goal

pub returns : goal.returns
returns c =
    let run = c.with_subcommand.ensures program_alone run_words c.program.ensures c.run_command.ensures.app c.run_command.ensures.local in
    let threads = c.with_subcommand-with_threads.ensures (with_subcommand program_alone run_words) threads_words run c.threads_command.ensures.app c.threads_command.ensures.local in
    let bench = c.with_subcommand-2.ensures (with_subcommand (with_subcommand program_alone run_words) threads_words) bench_words threads c.bench_command.ensures.app c.bench_command.ensures.local in
    let earlier = with_subcommand (with_subcommand (with_subcommand program_alone run_words) threads_words) bench_words in
    let show = c.with_subcommand-with_show.ensures earlier show_words bench c.show_command.ensures.app c.show_command.ensures.local in
    let init = c.with_subcommand-3.ensures (with_subcommand earlier show_words) init_words show c.init_command.ensures.app c.init_command.ensures.local in
    let later = with_subcommand (with_subcommand earlier show_words) init_words in
    let serve = c.with_subcommand-with_serve.ensures later serve_words init c.serve_command.ensures.app c.serve_command.ensures.local in
    c.with_subcommand-4.ensures (with_subcommand later serve_words) check_words serve c.check_command.ensures.app c.check_command.ensures.local
